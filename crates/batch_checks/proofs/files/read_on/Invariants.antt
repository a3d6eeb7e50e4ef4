use Rattle.std.proofs.Common.{◌-◌, ◌^◌}
use Rattle.kept_batches.specs.Recovery.{place_of}
use Rattle.batch_checks.proofs.files.read_on.Given as goal

abbrev pub decreases-loop-text : goal.decreases-loop-text
decreases-loop-text g l = 2 ^ 64 - place_of l.recovery
