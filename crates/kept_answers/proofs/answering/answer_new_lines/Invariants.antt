use Rattle.std.proofs.Common.{◌≡◌, ◌≤◌, ℕ, List, length}
use Rattle.std.specs.Prelude.{IsTrue}
use Rattle.kept_batches.specs.Verdict.{kept_in}
use Rattle.kept_batches.specs.Log.{IsSettled}
use Rattle.kept_answers.specs.Inner.UnderWay.{IsUnderWay}
use Rattle.kept_answers.proofs.answering.answer_new_lines.Given as goal

abbrev pub invariant-loop-turn : goal.invariant-loop-turn
invariant-loop-turn g l = record {
  read : List ℕ;
  written : List ℕ;
  given : g.R.Source.reading.gives l.initial.reader l.turn read l.reader;
  taken : g.W.Sink.writing.takes l.initial.writer written l.writer;
  under_way : IsUnderWay g.A.Answerer.rule l.initial.answerer l.answerer (g.D.Disk.seen l.log.disk) (IsTrue (g.D.Disk.is_clean l.log.disk)) (kept_in (g.D.Disk.seen l.initial.log.disk)) read written l.pending;
  settled : IsSettled g.D.Disk l.log;
  clean : g.D.Disk.is_clean l.log.disk ≡ g.D.Disk.is_clean l.initial.log.disk;
  short : length l.pending ≤ 1048576;
}
