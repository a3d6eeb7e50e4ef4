use Rattle.std.proofs.Common.{◌≡◌, ℕ, ◌*◌, ◌≤◌, List, [], length}
use Rattle.request_lines.specs.Inner.Gathered.{waiting}
use Rattle.request_lines.specs.Inner.Progress.{IsUnderWay}
use Rattle.request_lines.proofs.together.run_by_calls.Given as goal

abbrev pub invariant-loop-turn : goal.invariant-loop-turn
invariant-loop-turn g l = record {
  read : List ℕ;
  written : List ℕ;
  given : g.R.Source.reading.gives l.initial.reader l.turn read l.reader;
  taken : g.W.Sink.writing.takes l.initial.gathering.writer.now written l.gathering.writer.now;
  under_way : IsUnderWay g.A.Answerer.rule read (record { start = l.initial.chained.answerer.now; written = written; now = l.chained.answerer.now }) l.part.items l.progress;
  waits : waiting l.gathering.text.now.items l.gathering.sent ≡ [];
  writer : l.gathering.writer.ghost_name ≡ l.initial.gathering.writer.ghost_name;
  answerer : l.chained.answerer.ghost_name ≡ l.initial.chained.answerer.ghost_name;
  buffer_is : length l.buffer.items ≡ length l.initial.buffer.items;
  bytes_are : l.bytes ≡ length read;
  bound : l.bytes ≤ 4194304 * l.turn;
  few : l.progress.lines ≤ l.bytes;
  reader_unfailed : g.R.Source.reading.failed l.reader ≡ g.R.Source.reading.failed l.initial.reader;
  writer_unfailed : g.W.Sink.writing.failed l.gathering.writer.now ≡ g.W.Sink.writing.failed l.initial.gathering.writer.now;
}
