use Rattle.std.proofs.Common.{length}
use Rattle.marked_lines.proofs.Pieces.{Ahead}
use Rattle.marked_lines.proofs.marking.mark.Given as goal

abbrev pub invariant-loop-first : goal.invariant-loop-first
invariant-loop-first l = Ahead l.bytes l.out.items l.rest

abbrev pub decreases-loop-first : goal.decreases-loop-first
decreases-loop-first l = length l.rest
