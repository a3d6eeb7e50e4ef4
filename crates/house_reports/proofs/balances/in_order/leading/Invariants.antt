use Rattle.std.proofs.Common.{◌≡◌, ◌≤◌, ◌+◌, length}
use Rattle.house_reports.specs.balances.Inner.InOrder.{leading}
use Rattle.house_reports.proofs.balances.in_order.leading.Given as goal

abbrev pub invariant-loop-booking : goal.invariant-loop-booking
invariant-loop-booking l = record {
  value : l.count + leading l.period l.rest ≡ leading l.period l.bookings;
  bound : l.count + length l.rest ≤ length l.bookings;
}

abbrev pub decreases-loop-booking : goal.decreases-loop-booking
decreases-loop-booking l = length l.rest
