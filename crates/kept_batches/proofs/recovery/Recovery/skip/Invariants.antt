use Rattle.std.proofs.Common.{◌≡◌, ◌-◌, ◌^◌}
use Rattle.kept_batches.specs.Reading.{OnlyReads}
use Rattle.kept_batches.specs.Recovery.{disk_of, place_of}
use Rattle.kept_batches.proofs.recovery.Recovery.skip.Given as goal

-- the disk was only read
abbrev pub invariant-loop-end : goal.invariant-loop-end
invariant-loop-end g l = record {
  reads : OnlyReads g.D.Disk (disk_of l.initial.self) (disk_of l.self);
  calm : g.D.Disk.faults (disk_of l.self) ≡ g.D.Disk.faults (disk_of l.initial.self);
}

abbrev pub decreases-loop-end : goal.decreases-loop-end
decreases-loop-end g l = 2 ^ 64 - place_of l.self
