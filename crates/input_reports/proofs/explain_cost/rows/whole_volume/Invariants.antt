use Rattle.std.proofs.Common.{◌≡◌, ◌*◌, ◌^◌, ◌≤◌, take}
use Rattle.input_reports.specs.explain_cost.Costs.{whole_volume}
use Rattle.input_reports.proofs.explain_cost.rows.whole_volume.Given as goal

abbrev pub invariant-loop-row : goal.invariant-loop-row
invariant-loop-row l = record {
  value : l.volume ≡ whole_volume (take l.row-index l.rows);
  bound : l.volume ≤ l.row-index * 10 ^ 17;
}
