use Rattle.std.proofs.Common.{◌≡◌, ◌++◌, ◌-◌, ◌^◌, List, ℕ}
use Rattle.std.specs.Prelude.{IsTrue}
use Rattle.kept_batches.specs.Batch.{lines_of}
use Rattle.kept_batches.specs.Log.{IsSettled}
use Rattle.kept_batches.specs.Verdict.{kept_in as kept_in_batches}
use Rattle.kept_lines.specs.Reading.{OnlyReads}
use Rattle.kept_lines.specs.Recovery.{disk_of, lines_left, place_of}
use Rattle.store_commands.proofs.upgrade.copy_lines.Given as goal

-- some lines are in the log or the batch, and the others are left
abbrev pub invariant-loop-batch : goal.invariant-loop-batch
invariant-loop-batch g l = record {
  settled : IsSettled g.E.Disk l.log;
  copied : IsTrue (g.D.Disk.is_clean (disk_of l.old)) → IsTrue (g.E.Disk.is_clean l.log.disk) →
      (kept_in_batches (g.E.Disk.seen l.log.disk) ++ lines_of l.batch) ++ lines_left l.old ≡ kept_in_batches (g.E.Disk.seen l.initial.log.disk) ++ lines_left l.initial.old;
  reads : OnlyReads g.D.Disk (disk_of l.initial.old) (disk_of l.old);
  clean : g.E.Disk.is_clean l.log.disk ≡ g.E.Disk.is_clean l.initial.log.disk;
}

abbrev pub decreases-loop-batch : goal.decreases-loop-batch
decreases-loop-batch g l = 2 ^ 64 - place_of l.old
