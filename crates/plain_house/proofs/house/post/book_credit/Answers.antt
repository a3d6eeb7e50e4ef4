use Rattle.std.proofs.Common.{[], ◌∷◌, Err, subst, rules}
use Rattle.ocpi_types.specs.declared.cdr.Cdr.{Cdr}
use Rattle.plain_house.specs.declared.answer.Answer.TheVariants.{Accepted}
use Rattle.plain_house.specs.declared.event.Event.TheVariants.{Credit}
use Rattle.plain_house.specs.House.{full_for_cdr}
use Rattle.plain_house.specs.Known.{known}
use Rattle.plain_house.specs.Replies.{Follows}
use Rattle.plain_house.specs.Verdict.{accepts, unless}
use Rattle.plain_house.proofs.house.post.book_credit.Goals as goal

pub returns-in-Some : goal.returns-in-Some
returns-in-Some c =
    let before = known c.args.events.now.items in
    subst (λ (cdr : Cdr). Follows (unless (full_for_cdr c.args.config.now before cdr ∷ []) (accepts (Accepted c.args.booked before.period) (Credit c.args.credit c.args.booked)))
    c.args.events.now.items (Err c.refused.result) c.args.events.now.items) c.deref.ensures (search rules)

pub returns : goal.returns
returns c =
    let before = known c.args.events.now.items in
    subst (λ (cdr : Cdr). Follows (unless (full_for_cdr c.args.config.now before cdr ∷ []) (accepts (Accepted c.args.booked before.period) (Credit c.args.credit c.args.booked)))
    c.args.events.now.items c.add.result c.add.new.events.items) c.deref.ensures (search rules)
