use Rattle.std.proofs.Common.{◌≡◌, ◌*◌, ◌^◌, ◌≤◌, length, take}
use Rattle.std.specs.Prelude.{sum_by}
use Rattle.ocpi_types.specs.declared.component.ComponentKind.TheVariants.{Energy}
use Rattle.cdr_rating.specs.Volumes.{volume_in}
use Rattle.input_reports.proofs.explain_cost.AddedRows.{rows_among}
use Rattle.input_reports.proofs.explain_cost.rows.volume_rows.Given as goal

abbrev pub invariant-loop-number : goal.invariant-loop-number
invariant-loop-number l = record {
  rows : l.rows.items ≡ rows_among l.cdr l.zone l.kind (take l.number l.periods);
  few : length l.rows.items ≤ l.number;
  energy : l.energy ≡ sum_by (volume_in Energy) (take l.number l.periods);
  energy_bound : l.energy ≤ l.number * 10 ^ 17;
}
