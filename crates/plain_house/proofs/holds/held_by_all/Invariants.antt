use Rattle.std.proofs.Common.{◌≡◌, ◌+◌, filter, length}
use Rattle.std.specs.Option.{option_copied}
use Rattle.plain_house.specs.Exposure.{total_held}
use Rattle.plain_house.specs.Inner.Scanned.{event_open_holds, still_holds}
use Rattle.plain_house.proofs.holds.held_by_all.Given as goal

abbrev pub invariant-loop-event : goal.invariant-loop-event
invariant-loop-event l =
    l.total + total_held (filter (still_holds l.scope (option_copied l.charge)) (event_open_holds l.rest))
    ≡ total_held (filter (still_holds l.scope (option_copied l.charge)) (event_open_holds l.events))

abbrev pub decreases-loop-event : goal.decreases-loop-event
decreases-loop-event l = length l.rest
