use Rattle.std.proofs.Common.{◌-◌, ◌^◌}
use Rattle.kept_batches.specs.Recovery.{place_of}
use Rattle.batch_checks.proofs.telling.read_on.Given as goal

abbrev pub decreases-loop : goal.decreases-loop
decreases-loop l = 2 ^ 64 - place_of l.recovery
