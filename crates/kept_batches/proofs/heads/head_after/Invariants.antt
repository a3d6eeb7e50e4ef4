use Rattle.std.proofs.Common.{◌≡◌, ◌≤◌, length}
use Rattle.kept_batches.specs.Heads.{heads_from}
use Rattle.kept_batches.specs.Text.{lines_in}
use Rattle.kept_batches.proofs.heads.head_after.Given as goal

-- the lines that are left give the head that all of them gave
abbrev pub invariant-loop-count : goal.invariant-loop-count
invariant-loop-count l = (heads_from l.last (lines_in l.rest) ≡ heads_from l.head (lines_in l.text)) × (length l.rest ≤ length l.text)

abbrev pub decreases-loop-count : goal.decreases-loop-count
decreases-loop-count l = length l.rest
