use Rattle.std.proofs.Common.{◌≡◌, ◌≤◌, ◌-◌}
use Rattle.std.specs.Prelude.{IsTrue}
use Rattle.kept_batches.specs.Reading.{OnlyReads, IsHeadAt}
use Rattle.kept_batches.specs.Recovery.{disk_of, count_of}
use Rattle.kept_batches.proofs.recovery.Recovery.head_at.Given as goal

-- the disk was only read, and this is the head after the lines that were lent
abbrev pub invariant-loop-self : goal.invariant-loop-self
invariant-loop-self g l = record {
  within : count_of l.self ≤ l.count;
  reads : OnlyReads g.D.Disk (disk_of l.initial.self) (disk_of l.self);
  calm : g.D.Disk.faults (disk_of l.self) ≡ g.D.Disk.faults (disk_of l.initial.self);
  head_is : IsTrue (g.D.Disk.is_clean (disk_of l.self)) → IsHeadAt (g.D.Disk.seen (disk_of l.initial.self)) (count_of l.self) l.head;
}

abbrev pub decreases-loop-self : goal.decreases-loop-self
decreases-loop-self g l = l.count - count_of l.self
