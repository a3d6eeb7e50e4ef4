use Rattle.std.proofs.Common.{◌≡◌, ◌+◌, ◌≤◌, ◌++◌, List, ℕ, length, All}
use Rattle.request_lines.specs.Lines.{IsShort}
use Rattle.request_lines.specs.Inner.Progress.{HasAnswered, state, whole_from, rest_from}
use Rattle.request_lines.proofs.answering.feed.Given as goal

abbrev pub invariant-loop-line : goal.invariant-loop-line
invariant-loop-line g l = record {
  fed : List ℕ;
  cut : l.bytes ≡ fed ++ l.rest;
  answered : HasAnswered g.A.Answerer.rule g.W.Sink.writing (whole_from l.initial.part.items fed) (state l.initial.answerer l.initial.writer l.initial.progress) (state l.answerer l.writer l.progress);
  part_is : l.part.items ≡ rest_from l.initial.part.items fed;
  short : IsShort l.part.items;
  each_short : All IsShort (whole_from l.initial.part.items fed);
  few : l.progress.lines ≤ l.initial.progress.lines + length fed;
}

abbrev pub decreases-loop-line : goal.decreases-loop-line
decreases-loop-line g l = length l.rest
