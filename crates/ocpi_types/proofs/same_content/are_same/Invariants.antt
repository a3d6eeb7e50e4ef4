use Rattle.std.proofs.Common.{◌≡◌, drop}
use Rattle.std.specs.Cmp.Lexicographic.{pointwise}
use Rattle.ocpi_types.proofs.same_content.are_same.Given as goal

abbrev pub invariant-loop-item : goal.invariant-loop-item
invariant-loop-item g l = pointwise g.T.Part.same l.a l.b ≡ pointwise g.T.Part.same (drop l.item-index l.a) l.rest
