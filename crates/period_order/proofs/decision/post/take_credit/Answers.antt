use Rattle.std.proofs.Common.{◌≡◌, [], ◌∷◌, subst, rules}
use Rattle.ocpi_types.specs.declared.cdr.Cdr.{Cdr}
use Rattle.plain_house.specs.declared.answer.Answer.TheVariants.{Accepted}
use Rattle.plain_house.specs.declared.event.Event.TheVariants.{Credit}
use Rattle.plain_house.specs.House.{full_for_cdr}
use Rattle.plain_house.specs.Verdict.{accepts, unless}
use Rattle.period_order.specs.Decided.{replied_by, seen}
use Rattle.period_order.proofs.decision.post.take_credit.Goals as goal

pub returns-in-Some-clause-outcome : goal.returns-in-Some-clause-outcome
returns-in-Some-clause-outcome c =
    let known = seen c.args.book.now.entries c.args.account.now.entries c.args.order.now in
    subst (λ (cdr : Cdr). c.refused.result ≡ replied_by (unless (full_for_cdr c.args.config.now known cdr ∷ [])
    (accepts (Accepted c.args.booked known.period) (Credit c.args.credit c.args.booked)))) c.deref.ensures (search rules)

pub returns-clause-outcome : goal.returns-clause-outcome
returns-clause-outcome c =
    let known = seen c.args.book.now.entries c.args.account.now.entries c.args.order.now in
    subst (λ (cdr : Cdr). c.accepted.result ≡ replied_by (unless (full_for_cdr c.args.config.now known cdr ∷ [])
    (accepts (Accepted c.args.booked known.period) (Credit c.args.credit c.args.booked)))) c.deref.ensures (search rules)
