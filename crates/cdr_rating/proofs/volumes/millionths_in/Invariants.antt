use Rattle.std.proofs.Common.{◌≡◌, ◌*◌, ◌^◌, ◌≤◌, take}
use Rattle.std.specs.Prelude.{filter, sum_by, unsigned_abs}
use Rattle.cdr_rating.specs.Volumes.{charges_for}
use Rattle.cdr_rating.proofs.volumes.millionths_in.Given as goal

abbrev pub invariant-loop-dimension : goal.invariant-loop-dimension
invariant-loop-dimension l = record {
  value : l.total ≡ sum_by (λ d. unsigned_abs d.volume) (filter (λ d. charges_for l.fn.kind d.kind) (take l.dimension-index l.dimensions));
  bound : l.total ≤ l.dimension-index * 10 ^ 15;
}
