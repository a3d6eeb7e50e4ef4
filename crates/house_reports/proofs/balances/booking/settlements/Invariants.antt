use Rattle.std.proofs.Common.{◌≡◌, ◌++◌, length}
use Rattle.house_reports.specs.balances.Bookings.{settlements}
use Rattle.house_reports.proofs.balances.booking.settlements.Given as goal

abbrev pub invariant-loop-event : goal.invariant-loop-event
invariant-loop-event l = l.found ++ settlements l.rest ≡ settlements l.events

abbrev pub decreases-loop-event : goal.decreases-loop-event
decreases-loop-event l = length l.rest
