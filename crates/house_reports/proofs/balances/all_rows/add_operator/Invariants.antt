use Rattle.std.proofs.Common.{◌≡◌, ◌++◌, take}
use Rattle.house_reports.specs.balances.Inner.Narrowed.{rows_of_operator}
use Rattle.house_reports.proofs.balances.all_rows.add_operator.Given as goal

abbrev pub invariant-loop-provider : goal.invariant-loop-provider
invariant-loop-provider l =
    l.rows.items ≡ l.fn.rows.items ++ rows_of_operator l.listed.settlements l.period l.currency l.operator (take l.provider-index l.listed.providers.items) l.bookings
