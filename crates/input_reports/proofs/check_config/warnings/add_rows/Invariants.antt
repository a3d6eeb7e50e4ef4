use Rattle.std.proofs.Common.{◌≡◌, ◌++◌, take}
use Rattle.input_reports.specs.check_config.Warnings.{rows_warnings}
use Rattle.input_reports.proofs.check_config.warnings.add_rows.Given as goal

abbrev pub invariant-loop-currency : goal.invariant-loop-currency
invariant-loop-currency l = l.found.items ≡ l.fn.found.items ++ rows_warnings (take l.currency-index l.currencies) l.provider
