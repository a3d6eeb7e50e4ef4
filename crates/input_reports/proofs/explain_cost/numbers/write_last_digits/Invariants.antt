use Rattle.std.proofs.Common.{◌≡◌, ◌≤◌, ◌++◌}
use Rattle.input_reports.specs.explain_cost.Numbers.{last_digits}
use Rattle.input_reports.proofs.explain_cost.numbers.write_last_digits.Given as goal

abbrev pub invariant-loop-left : goal.invariant-loop-left
invariant-loop-left l = record {
  text : l.text.items ++ last_digits l.left l.number ≡ l.initial.text.items ++ last_digits l.places l.number;
  few : l.left ≤ 12;
}

abbrev pub decreases-loop-left : goal.decreases-loop-left
decreases-loop-left l = l.left
