use Rattle.std.proofs.Common.{ℕ, List, [], ◌∷◌, Err, pos, subst, rules}
use Rattle.ocpi_types.specs.declared.cdr.Cdr.{Cdr}
use Rattle.ocpi_types.specs.declared.config.Config.{Config}
use Rattle.plain_house.specs.declared.answer.Answer.TheVariants.{Accepted}
use Rattle.plain_house.specs.declared.event.Event.TheVariants.{Cdr as CdrEvent}
use Rattle.plain_house.specs.declared.event.Event.{Event}
use Rattle.plain_house.specs.Entries.{charge_of}
use Rattle.plain_house.specs.House.{full_for_cdr}
use Rattle.plain_house.specs.Known.{known}
use Rattle.plain_house.specs.Posting.{over_limit}
use Rattle.plain_house.specs.Replies.{Follows}
use Rattle.plain_house.specs.Verdict.{Verdict, accepts, refused_for, unless}
use Rattle.plain_house.proofs.house.post.book_cdr.Goals as goal

abbrev posted : Config → List Event → Cdr → Cdr → Cdr → ℕ → Verdict
posted config events cdr kept billed cost =
    unless (full_for_cdr config (known events) kept ∷ refused_for (over_limit config (charge_of billed cost (known events).period) (known events).account) ∷ [])
    (accepts (Accepted (pos cost) (known events).period) (CdrEvent cdr cost))

pub returns-in-Some : goal.returns-in-Some
returns-in-Some c =
    let events = c.args.events.now.items in
    subst (λ (cdr : Cdr). Follows (posted c.args.config.now events c.args.cdr cdr c.args.cdr c.args.cost) events (Err c.refused.result) events)
    c.deref.ensures (search rules)

pub returns-in-Some-over_limit : goal.returns-in-Some-over_limit
returns-in-Some-over_limit c =
    let events = c.args.events.now.items in
    subst (λ (cdr : Cdr). Follows (posted c.args.config.now events c.args.cdr cdr c.args.cdr c.args.cost) events (Err c.refused-in-Some-over_limit.result) events)
    c.deref.ensures
    (subst (λ (cdr : Cdr). Follows (posted c.args.config.now events c.args.cdr c.deref.result.now cdr c.args.cost) events (Err c.refused-in-Some-over_limit.result) events)
    c.deref-2.ensures (search rules))

pub returns : goal.returns
returns c =
    let events = c.args.events.now.items in
    subst (λ (cdr : Cdr). Follows (posted c.args.config.now events c.args.cdr cdr c.args.cdr c.args.cost) events c.add.result c.add.new.events.items)
    c.deref.ensures
    (subst (λ (cdr : Cdr). Follows (posted c.args.config.now events c.args.cdr c.deref.result.now cdr c.args.cost) events c.add.result c.add.new.events.items)
    c.deref-2.ensures (search rules))
