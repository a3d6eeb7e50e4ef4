use Rattle.std.proofs.Common.{◌≡◌, ◌++◌, List, ℕ, length, map}
use Rattle.std.specs.List.{All, flat_map}
use Rattle.kept_batches.specs.Batch.{lines_of}
use Rattle.request_lines.specs.Lines.{HasNoNewline, with_newline}
use Rattle.kept_answers.proofs.pending.push_whole_lines.Given as goal

-- some lines were added, with their sizes, and the rest follows them
abbrev pub invariant-loop-line : goal.invariant-loop-line
invariant-loop-line l =
    (whole : List (List ℕ)) × All HasNoNewline whole × (lines_of l.batch ≡ lines_of l.initial.batch ++ whole) × (l.bytes ≡ flat_map with_newline whole ++ l.rest) × (l.sizes.items ≡ l.initial.sizes.items ++ map length whole)

abbrev pub decreases-loop-line : goal.decreases-loop-line
decreases-loop-line l = length l.rest
