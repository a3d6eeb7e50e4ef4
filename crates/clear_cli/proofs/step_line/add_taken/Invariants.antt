use Rattle.std.proofs.Common.{◌≡◌, ◌++◌, map, take}
use Rattle.clear_cli.specs.StepLine.{taken_by}
use Rattle.clear_cli.proofs.step_line.add_taken.Given as goal

abbrev pub invariant-loop-action : goal.invariant-loop-action
invariant-loop-action l = l.steps.items ≡ l.fn.steps.items ++ map (taken_by l.call) (take l.action-index l.actions)
