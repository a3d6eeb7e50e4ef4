use Rattle.std.proofs.Common.{◌≡◌, length}
use Rattle.kept_batches.specs.Verdict.{number}
use Rattle.kept_batches.proofs.finding.number_in.Given as goal

-- the bytes that are left give the number that all of them gave
abbrev pub invariant-loop-digit : goal.invariant-loop-digit
invariant-loop-digit l = number l.number l.rest ≡ number 0 l.text

abbrev pub decreases-loop-digit : goal.decreases-loop-digit
decreases-loop-digit l = length l.rest
