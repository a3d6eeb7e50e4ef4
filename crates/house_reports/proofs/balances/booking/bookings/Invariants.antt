use Rattle.std.proofs.Common.{◌≡◌, ◌≤◌, ◌+◌, ◌++◌, length}
use Rattle.house_reports.specs.balances.Bookings.{bookings, bookings_from}
use Rattle.house_reports.proofs.balances.booking.bookings.Given as goal

abbrev pub invariant-loop-event : goal.invariant-loop-event
invariant-loop-event l = record {
  found : l.found.items ++ bookings_from l.period l.rest ≡ bookings l.events;
  periods : l.period + length l.rest ≤ length l.events;
}

abbrev pub decreases-loop-event : goal.decreases-loop-event
decreases-loop-event l = length l.rest
