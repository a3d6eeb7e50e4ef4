use Rattle.std.proofs.Common.{◌≡◌, ◌≤◌, ◌-◌, ◌^◌, ◌++◌, List, ℕ, length}
use Rattle.std.specs.Prelude.{IsTrue}
use Rattle.kept_batches.specs.Reading.{OnlyReads}
use Rattle.kept_batches.specs.Recovery.{disk_of, lines_left, place_of}
use Rattle.kept_answers.proofs.keeping.count_lines.Given as goal

-- some lines are counted, and the others are left
abbrev pub invariant-loop-count : goal.invariant-loop-count
invariant-loop-count g l = record {
  done : List (List ℕ);
  left : IsTrue (g.D.Disk.is_clean (disk_of l.recovery)) → lines_left l.initial.recovery ≡ done ++ lines_left l.recovery;
  size : length done ≡ l.count;
  few : l.count ≤ place_of l.recovery;
  reads : OnlyReads g.D.Disk (disk_of l.initial.recovery) (disk_of l.recovery);
}

abbrev pub decreases-loop-count : goal.decreases-loop-count
decreases-loop-count g l = 2 ^ 64 - place_of l.recovery
