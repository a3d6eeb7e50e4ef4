use Rattle.std.proofs.Common.{◌≡◌, ℕ, ◌*◌, ◌≤◌, List, length}
use Rattle.request_lines.specs.Inner.Progress.{IsUnderWay}
use Rattle.request_lines.proofs.answering.run_by_parts.Given as goal

abbrev pub invariant-loop-turn : goal.invariant-loop-turn
invariant-loop-turn g l = record {
  read : List ℕ;
  written : List ℕ;
  given : g.R.Source.reading.gives l.initial.reader l.turn read l.reader;
  taken : g.W.Sink.writing.takes l.initial.writer written l.writer;
  under_way : IsUnderWay g.A.Answerer.rule read (record { start = l.initial.answerer; written = written; now = l.answerer }) l.part.items l.progress;
  buffer_is : length l.buffer.items ≡ 65536;
  bytes_are : l.bytes ≡ length read;
  bound : l.bytes ≤ 65536 * l.turn;
  few : l.progress.lines ≤ l.bytes;
  reader_unfailed : g.R.Source.reading.failed l.reader ≡ g.R.Source.reading.failed l.initial.reader;
  writer_unfailed : g.W.Sink.writing.failed l.writer ≡ g.W.Sink.writing.failed l.initial.writer;
}
