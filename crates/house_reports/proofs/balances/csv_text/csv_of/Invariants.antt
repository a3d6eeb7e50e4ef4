use Rattle.std.proofs.Common.{◌≡◌, map, take}
use Rattle.std.specs.Prelude.{Some}
use Rattle.csv.specs.Writing.{text_written}
use Rattle.house_reports.specs.balances.BalanceText.{table_text}
use Rattle.house_reports.specs.balances.Inner.Fields.{texts_of}
use Rattle.house_reports.specs.balances.Inner.Writers.{IsBetweenRecords}
use Rattle.house_reports.proofs.balances.csv_text.csv_of.Given as goal

abbrev pub invariant-loop-line : goal.invariant-loop-line
invariant-loop-line l = record {
  between : IsBetweenRecords l.table;
  text : text_written (λ bytes. Some bytes.items) l.table ≡ Some (table_text (map texts_of (take l.line-index l.lines)));
}
