use Rattle.std.proofs.Common.{◌≡◌, ◌≤◌, ◌↔◌, length}
use Rattle.kept_batches.specs.Text.{lines_in, marked}
use Rattle.kept_batches.proofs.lines.are_lines.Given as goal

-- all are lines if those that are left are
abbrev pub invariant-loop-count : goal.invariant-loop-count
invariant-loop-count l = ((l.rest ≡ marked (lines_in l.rest)) ↔ (l.text ≡ marked (lines_in l.text))) × (length l.rest ≤ length l.text)

abbrev pub decreases-loop-count : goal.decreases-loop-count
decreases-loop-count l = length l.rest
