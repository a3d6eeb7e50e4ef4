use Rattle.std.proofs.Common.{◌≡◌, ◌-◌, ◌≤◌, length, take}
use Rattle.request_lines.proofs.streams.write_all.Given as goal

abbrev pub invariant-loop-at : goal.invariant-loop-at
invariant-loop-at g l = record {
  taken : g.W.Sink.writing.takes l.initial.writer (take l.at l.bytes) l.writer;
  bound : l.at ≤ length l.bytes;
  unfailed : g.W.Sink.writing.failed l.writer ≡ g.W.Sink.writing.failed l.initial.writer;
}

abbrev pub decreases-loop-at : goal.decreases-loop-at
decreases-loop-at g l = length l.bytes - l.at
