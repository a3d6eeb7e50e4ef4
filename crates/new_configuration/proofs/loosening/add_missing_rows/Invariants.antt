use Rattle.std.proofs.Common.{◌≡◌, ◌++◌, take}
use Rattle.new_configuration.specs.Loosened.{missing_rows}
use Rattle.new_configuration.proofs.loosening.add_missing_rows.Given as goal

abbrev pub invariant-loop-currency : goal.invariant-loop-currency
invariant-loop-currency l = l.limits ≡ l.fn.limits ++ missing_rows l.provider (take l.currency-index l.currencies)
