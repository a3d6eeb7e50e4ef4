use Rattle.std.proofs.Common.{subst}
use Rattle.plain_house.specs.declared.event.Event.TheVariants as event
use Rattle.plain_house.specs.declared.event.Hold.{Hold}
use Rattle.period_order.specs.Decided.{AccountTakes}
use Rattle.period_order.proofs.entry_books.takes.is_next_hold.Goals as goal

pub returns-clause-takes : goal.returns-clause-takes
returns-clause-takes c = λ yes period.
    subst (λ (hold : Hold). AccountTakes c.args.account.now.entries period (event.Authorised hold)) (c.is_same.ensures.0 yes) (c.hold_within.ensures.takes period)
