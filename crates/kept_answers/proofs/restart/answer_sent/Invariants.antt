use Rattle.std.proofs.Common.{◌≡◌, ◌++◌, ◌-◌, ◌^◌, List, ℕ}
use Rattle.std.specs.Prelude.{IsTrue}
use Rattle.kept_batches.specs.Reading.{OnlyReads}
use Rattle.kept_batches.specs.Recovery.{disk_of, lines_left, place_of}
use Rattle.kept_answers.proofs.restart.answer_sent.Given as goal

-- some lines are answered, and the others are left
abbrev pub invariant-loop-text : goal.invariant-loop-text
invariant-loop-text g l = record {
  done : List (List ℕ);
  written : List ℕ;
  taken : g.W.Sink.writing.takes l.initial.writer written l.writer;
  answers : g.A.Answerer.rule.answers l.initial.answerer done (written ++ l.text.items) l.answerer;
  left : IsTrue (g.D.Disk.is_clean (disk_of l.recovery)) → lines_left l.initial.recovery ≡ done ++ lines_left l.recovery;
  reads : OnlyReads g.D.Disk (disk_of l.initial.recovery) (disk_of l.recovery);
}

abbrev pub decreases-loop-text : goal.decreases-loop-text
decreases-loop-text g l = 2 ^ 64 - place_of l.recovery
