use Rattle.std.proofs.Common.{◌≡◌, ◌*◌, ◌^◌, ◌≤◌, take}
use Rattle.input_reports.specs.explain_cost.Costs.{whole_cost}
use Rattle.input_reports.proofs.explain_cost.explained.whole_cost.Given as goal

abbrev pub invariant-loop-row : goal.invariant-loop-row
invariant-loop-row l = record {
  value : l.units ≡ whole_cost (take l.row-index l.rows);
  bound : l.units ≤ l.row-index * 10 ^ 33;
}
