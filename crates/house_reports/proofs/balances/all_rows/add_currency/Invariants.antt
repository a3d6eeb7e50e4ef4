use Rattle.std.proofs.Common.{◌≡◌, ◌++◌, take}
use Rattle.house_reports.specs.balances.Inner.Narrowed.{rows_of_currency}
use Rattle.house_reports.proofs.balances.all_rows.add_currency.Given as goal

abbrev pub invariant-loop-operator : goal.invariant-loop-operator
invariant-loop-operator l =
    l.rows.items ≡ l.fn.rows.items ++ rows_of_currency l.listed.settlements l.period l.currency (take l.operator-index l.listed.operators.items) l.listed.providers.items l.bookings
