use Rattle.std.proofs.Common.{◌≡◌, Some, take, false}
use Rattle.marked_lines.specs.Cut.{inside}
use Rattle.marked_lines.proofs.marking.text_len.Given as goal

abbrev pub invariant-loop-index : goal.invariant-loop-index
invariant-loop-index l = inside false (take l.index l.bytes) ≡ Some l.kept
