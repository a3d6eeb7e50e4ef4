use Rattle.std.proofs.Common.{map, take}
use Rattle.std.specs.Prelude.{Some}
use Rattle.std.specs.Io.KnownBytes.{Appends}
use Rattle.csv.specs.Writing.{text_written}
use Rattle.input_reports.specs.explain_cost.CostText.{change_fields, table_text}
use Rattle.input_reports.specs.explain_cost.Inner.Writers.{IsBetweenRecords}
use Rattle.input_reports.proofs.explain_cost.cost_text.write_changes.Given as goal

abbrev pub invariant-loop-change : goal.invariant-loop-change
invariant-loop-change l = record {
  between : IsBetweenRecords l.table;
  text : Appends (text_written (λ bytes. Some bytes.items) l.initial.table) (text_written (λ bytes. Some bytes.items) l.table) (table_text (map change_fields (take l.change-index l.changes)));
}
