-- There is no amount only where the rounded one is too large.
use Rattle.std.proofs.Common.{ℕ, refl, arith}
use Rattle.std.proofs.lemmas.Bool.{lt-ltb}
use Rattle.exact_money.specs.Exact.{IsRoundedHalfUp}
use Rattle.cdr_rating.specs.Price.{rounded}
use Rattle.cdr_rating.proofs.price.rounded.Goals as goal

rounded_half_up : (units : ℕ) → IsRoundedHalfUp units (rounded units)
rounded_half_up units = record { not_above = omega arith; below_next = omega arith }

pub returns-in-None : goal.returns-in-None
returns-in-None c =
    rw (lt-ltb 1000000000000 (rounded c.args.units) (c.in-None.ensures.too_large (rounded c.args.units) (rounded_half_up c.args.units))) refl
