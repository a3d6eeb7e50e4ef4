use Rattle.std.proofs.Common.{◌≡◌, List, ℕ, ◌++◌, length}
use Rattle.std.specs.List.{All}
use Rattle.kept_batches.specs.Batch.{lines_of}
use Rattle.kept_batches.specs.Text.{IsLine}
use Rattle.kept_batches.specs.Text.{ended}
use Rattle.kept_batches.proofs.batch.Batch.push_lines.Given as goal

-- some lines were added
abbrev pub invariant-loop-end : goal.invariant-loop-end
invariant-loop-end l = (added : List (List ℕ)) × All IsLine added × (lines_of l.self ≡ lines_of l.initial.self ++ added) × (l.text ≡ ended added ++ l.rest)

abbrev pub decreases-loop-end : goal.decreases-loop-end
decreases-loop-end l = length l.rest
