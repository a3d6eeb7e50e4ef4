use Rattle.std.proofs.Common.{◌≡◌, length}
use Rattle.ocpi_types.specs.Different.{all_different}
use Rattle.ocpi_types.proofs.different.are_all_different.Given as goal

abbrev pub invariant-loop-first : goal.invariant-loop-first
invariant-loop-first g l = all_different g.T.Alike.alike l.items ≡ all_different g.T.Alike.alike l.rest

abbrev pub decreases-loop-first : goal.decreases-loop-first
decreases-loop-first g l = length l.rest
