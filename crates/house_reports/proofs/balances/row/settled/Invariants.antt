use Rattle.std.proofs.Common.{◌≡◌, ◌≤◌, ◌+◌, length}
use Rattle.std.specs.Prelude.{◌+ℤ◌, unsigned_abs}
use Rattle.house_reports.specs.balances.Balances.{settled}
use Rattle.house_reports.specs.balances.Inner.Narrowed.{size}
use Rattle.house_reports.proofs.balances.row.settled.Given as goal

abbrev pub invariant-loop-booking : goal.invariant-loop-booking
invariant-loop-booking l = record {
  value : l.total +ℤ settled l.settlements l.rest ≡ settled l.settlements l.bookings;
  bound : unsigned_abs l.total + size l.rest ≤ size l.bookings;
}

abbrev pub decreases-loop-booking : goal.decreases-loop-booking
decreases-loop-booking l = length l.rest
