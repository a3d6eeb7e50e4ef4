use Rattle.std.proofs.Common.{◌≡◌, ◌++◌, take}
use Rattle.house_reports.specs.balances.Inner.Narrowed.{rows_of_period}
use Rattle.house_reports.proofs.balances.all_rows.add_period.Given as goal

abbrev pub invariant-loop-currency : goal.invariant-loop-currency
invariant-loop-currency l =
    l.rows.items ≡ l.fn.rows.items ++ rows_of_period l.listed.settlements l.period (take l.currency-index l.listed.currencies.items) l.listed.operators.items l.listed.providers.items l.bookings
