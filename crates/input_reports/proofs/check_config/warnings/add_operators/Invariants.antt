use Rattle.std.proofs.Common.{◌≡◌, ◌++◌, take}
use Rattle.std.specs.Prelude.{flat_map}
use Rattle.input_reports.specs.check_config.Warnings.{operator_warnings}
use Rattle.input_reports.proofs.check_config.warnings.add_operators.Given as goal

abbrev pub invariant-loop-operator : goal.invariant-loop-operator
invariant-loop-operator l = l.found.items ≡ l.fn.found.items ++ flat_map (operator_warnings l.config) (take l.operator-index l.config.operators)
