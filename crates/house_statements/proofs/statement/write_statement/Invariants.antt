use Rattle.std.proofs.Common.{◌≡◌, ◌∷◌, map, take}
use Rattle.std.specs.Prelude.{Some}
use Rattle.csv.specs.Writing.{text_written}
use Rattle.house_statements.specs.Inner.Writers.{IsBetweenRecords}
use Rattle.house_statements.specs.Statement.{row_fields, statement_header}
use Rattle.house_statements.specs.Table.{table_text}
use Rattle.house_statements.proofs.statement.write_statement.Given as goal

abbrev pub invariant-loop-row : goal.invariant-loop-row
invariant-loop-row l = record {
  between : IsBetweenRecords l.table;
  text : text_written (λ bytes. Some bytes.items) l.table ≡ Some (table_text (statement_header ∷ map row_fields (take l.row-index l.rows)));
}
