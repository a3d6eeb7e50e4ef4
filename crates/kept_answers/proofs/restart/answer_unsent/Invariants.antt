use Rattle.std.proofs.Common.{◌≡◌, ◌++◌, List, ℕ, length}
use Rattle.std.specs.Prelude.{IsTrue}
use Rattle.kept_batches.specs.Reading.{OnlyReads}
use Rattle.kept_batches.specs.Recovery.{disk_of, lines_left}
use Rattle.kept_answers.proofs.restart.answer_unsent.Given as goal

-- some lines are answered, and the others are left
abbrev pub invariant-loop-number : goal.invariant-loop-number
invariant-loop-number g l = record {
  done : List (List ℕ);
  text : List ℕ;
  answers : g.A.Answerer.rule.answers l.initial.answerer done text l.answerer;
  left : IsTrue (g.D.Disk.is_clean (disk_of l.recovery)) → lines_left l.initial.recovery ≡ done ++ lines_left l.recovery;
  size : length done ≡ l.number;
  reads : OnlyReads g.D.Disk (disk_of l.initial.recovery) (disk_of l.recovery);
}
