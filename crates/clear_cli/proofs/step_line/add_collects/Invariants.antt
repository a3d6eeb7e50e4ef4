use Rattle.std.proofs.Common.{◌≡◌, ◌++◌, map}
use Rattle.clear_cli.specs.StepLine.{collects, taken_by}
use Rattle.clear_cli.proofs.step_line.add_collects.Given as goal

abbrev pub invariant-loop-operator : goal.invariant-loop-operator
invariant-loop-operator l = l.steps.items ≡ l.fn.steps.items ++ map (taken_by l.call) (collects l.operator)
