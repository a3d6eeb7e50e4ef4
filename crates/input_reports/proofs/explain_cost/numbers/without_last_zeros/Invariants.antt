use Rattle.std.proofs.Common.{◌≡◌, ◌≤◌}
use Rattle.input_reports.specs.explain_cost.Numbers.{without_last_zeros}
use Rattle.input_reports.proofs.explain_cost.numbers.without_last_zeros.Given as goal

abbrev pub invariant-loop-left : goal.invariant-loop-left
invariant-loop-left l = record {
  value : without_last_zeros l.left.places l.left.number ≡ without_last_zeros l.places l.number;
  places : l.left.places ≤ l.places;
}

abbrev pub decreases-loop-left : goal.decreases-loop-left
decreases-loop-left l = l.left.places
