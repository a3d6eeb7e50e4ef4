use Rattle.std.proofs.Common.{◌≡◌, find, length}
use Rattle.plain_house.specs.declared.entry.AccountEntry.TheVariants as account
use Rattle.plain_house.specs.Exposure.{ends_hold}
use Rattle.plain_house.specs.Inner.Scanned.{event_open_holds}
use Rattle.plain_house.proofs.holds.first_released.Given as goal

abbrev pub invariant-loop-event : goal.invariant-loop-event
invariant-loop-event l =
    find (λ hold. ends_hold hold (account.Release l.release)) (event_open_holds l.rest)
    ≡ find (λ hold. ends_hold hold (account.Release l.release)) (event_open_holds l.events)

abbrev pub decreases-loop-event : goal.decreases-loop-event
decreases-loop-event l = length l.rest
