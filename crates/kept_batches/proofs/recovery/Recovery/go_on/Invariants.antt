use Rattle.std.proofs.Common.{◌≡◌, ◌≤◌, ◌-◌, ◌^◌}
use Rattle.kept_batches.specs.Reading.{OnlyReads}
use Rattle.kept_batches.specs.Recovery.{disk_of, count_of, place_of}
use Rattle.kept_batches.proofs.recovery.Recovery.go_on.Given as goal

-- the disk was only read, and no line was lent
abbrev pub invariant-loop-self : goal.invariant-loop-self
invariant-loop-self g l = record {
  count : count_of l.self ≡ count_of l.initial.self;
  stays : place_of l.initial.self ≤ place_of l.self;
  reads : OnlyReads g.D.Disk (disk_of l.initial.self) (disk_of l.self);
  calm : g.D.Disk.faults (disk_of l.self) ≡ g.D.Disk.faults (disk_of l.initial.self);
}

abbrev pub decreases-loop-self : goal.decreases-loop-self
decreases-loop-self g l = 2 ^ 64 - place_of l.self
