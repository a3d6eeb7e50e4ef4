use Rattle.std.proofs.Common.{◌≡◌, ℕ, ◌<◌, get_or, true}
use Rattle.marked_lines.specs.Cut.{is_number_byte}
use Rattle.marked_lines.proofs.marking.number_len.Given as goal

abbrev pub invariant-loop-index : goal.invariant-loop-index
invariant-loop-index l = (k : ℕ) → k < l.index → is_number_byte (get_or l.bytes k 0) ≡ true
