use Rattle.std.proofs.Common.{◌≡◌, ◌++◌, take}
use Rattle.std.specs.Prelude.{flat_map}
use Rattle.input_reports.specs.check_config.Warnings.{provider_warnings}
use Rattle.input_reports.proofs.check_config.warnings.add_providers.Given as goal

abbrev pub invariant-loop-provider : goal.invariant-loop-provider
invariant-loop-provider l = l.found.items ≡ l.fn.found.items ++ flat_map (provider_warnings l.config) (take l.provider-index l.config.providers)
