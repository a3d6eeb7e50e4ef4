use Rattle.std.proofs.Common.{◌≡◌, ◌≤◌, ℕ}
use Rattle.std.specs.Prelude.{flat_map}
use Rattle.house_reports.specs.balances.Balances.{row_keys, row_at}
use Rattle.house_reports.specs.balances.Bookings.{bookings}
use Rattle.house_reports.specs.balances.Inner.InOrder.{AreFrom}
use Rattle.house_reports.specs.balances.Inner.Narrowed.{of_period}
use Rattle.house_reports.proofs.balances.all_rows.rows.Given as goal

abbrev pub invariant-loop-period : goal.invariant-loop-period
invariant-loop-period l = record {
  rows : l.rows.items ≡ flat_map (row_at l.listed.settlements (bookings l.events)) (row_keys l.config l.period);
  in_order : AreFrom l.period l.rest;
  left : (number : ℕ) → l.period ≤ number → of_period number l.rest ≡ of_period number (bookings l.events);
}
