use Rattle.std.proofs.Common.{◌≤◌, ◌+◌, length}
use Rattle.std.specs.Prelude.{Some}
use Rattle.std.specs.Io.KnownBytes.{Appends}
use Rattle.csv.specs.Writing.{text_written}
use Rattle.plain_house.specs.Entries.{dated_from}
use Rattle.house_statements.specs.Inner.Writers.{IsBetweenRecords}
use Rattle.house_statements.specs.Order.{order_text, records_from}
use Rattle.house_statements.specs.Table.{table_text}
use Rattle.house_statements.proofs.order.write_order.Given as goal

abbrev pub invariant-loop-event : goal.invariant-loop-event
invariant-loop-event l = record {
  between : IsBetweenRecords l.table;
  text : Appends (text_written (λ bytes. Some bytes.items) l.table) (Some (order_text l.events)) (table_text (records_from l.point (dated_from l.period l.rest)));
  points : l.point + length l.rest ≤ length l.events;
  periods : l.period + length l.rest ≤ length l.events;
}

abbrev pub decreases-loop-event : goal.decreases-loop-event
decreases-loop-event l = length l.rest
