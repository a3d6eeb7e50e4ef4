use Rattle.std.proofs.Common.{◌≡◌, ◌++◌, take}
use Rattle.std.specs.Prelude.{flat_map}
use Rattle.input_reports.specs.check_config.Warnings.{rows_warnings}
use Rattle.input_reports.proofs.check_config.warnings.add_limits.Given as goal

abbrev pub invariant-loop-provider : goal.invariant-loop-provider
invariant-loop-provider l =
    l.found.items ≡ l.fn.found.items ++ flat_map (rows_warnings l.config.currencies) (take l.provider-index l.config.providers)
