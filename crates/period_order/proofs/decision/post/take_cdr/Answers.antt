use Rattle.std.proofs.Common.{◌≡◌, ℕ, [], ◌∷◌, pos, subst, rules}
use Rattle.ocpi_types.specs.declared.cdr.Cdr.{Cdr}
use Rattle.ocpi_types.specs.declared.config.Config.{Config}
use Rattle.plain_house.specs.declared.answer.Answer.TheVariants.{Accepted}
use Rattle.plain_house.specs.declared.event.Event.TheVariants.{Cdr as CdrEvent}
use Rattle.plain_house.specs.Entries.{charge_of}
use Rattle.plain_house.specs.House.{full_for_cdr}
use Rattle.plain_house.specs.Known.{Known}
use Rattle.plain_house.specs.Posting.{over_limit}
use Rattle.plain_house.specs.Verdict.{accepts, refused_for, unless}
use Rattle.period_order.specs.declared.decided.Outcome.{Outcome}
use Rattle.period_order.specs.Decided.{replied_by, seen}
use Rattle.period_order.proofs.decision.post.take_cdr.Goals as goal

abbrev posted : Config → Known → Cdr → Cdr → Cdr → ℕ → Outcome
posted config known cdr kept billed cost =
    replied_by (unless (full_for_cdr config known kept ∷ refused_for (over_limit config (charge_of billed cost known.period) known.account) ∷ [])
    (accepts (Accepted (pos cost) known.period) (CdrEvent cdr cost)))

pub returns-in-Some-clause-outcome : goal.returns-in-Some-clause-outcome
returns-in-Some-clause-outcome c =
    let known = seen c.args.book.now.entries c.args.account.now.entries c.args.order.now in
    subst (λ (cdr : Cdr). c.refused.result ≡ posted c.args.config.now known c.args.cdr cdr c.args.cdr c.args.cost) c.deref.ensures (search rules)

pub returns-in-Some-over_limit-clause-outcome : goal.returns-in-Some-over_limit-clause-outcome
returns-in-Some-over_limit-clause-outcome c =
    let known = seen c.args.book.now.entries c.args.account.now.entries c.args.order.now in
    subst (λ (cdr : Cdr). c.refused-in-Some-over_limit.result ≡ posted c.args.config.now known c.args.cdr cdr c.args.cdr c.args.cost) c.deref.ensures
    (subst (λ (cdr : Cdr). c.refused-in-Some-over_limit.result ≡ posted c.args.config.now known c.args.cdr c.deref.result.now cdr c.args.cost)
    c.deref-2.ensures (search rules))

pub returns-clause-outcome : goal.returns-clause-outcome
returns-clause-outcome c =
    let known = seen c.args.book.now.entries c.args.account.now.entries c.args.order.now in
    subst (λ (cdr : Cdr). c.accepted.result ≡ posted c.args.config.now known c.args.cdr cdr c.args.cdr c.args.cost) c.deref.ensures
    (subst (λ (cdr : Cdr). c.accepted.result ≡ posted c.args.config.now known c.args.cdr c.deref.result.now cdr c.args.cost)
    c.deref-2.ensures (search rules))
