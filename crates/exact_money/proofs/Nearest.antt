-- The quotient is the nearest millionth.
use Rattle.std.proofs.Common.{◌≡◌, ℕ, ◌+◌, ◌*◌, ◌<◌, arith}
use Rattle.std.proofs.lemmas.Nat.{div-add-mod', le-div, mod_below}
use Rattle.exact_money.specs.Numeral.{IsNearest}
use Rattle.exact_money.specs.Inner.NumeralOf.{rounded_size}

pub rounded_nearest : (digits unit : ℕ) → 0 < unit → IsNearest digits unit (rounded_size digits unit)
rounded_nearest digits unit positive =
    let some : 0 < 2 * unit = omega arith in
    let whole = div-add-mod' (2 * (digits * 1000000) + unit) (2 * unit) in
    let below = mod_below (2 * (digits * 1000000) + unit) (2 * unit) some in
    record {
      near = (omega (arith, whole, below), omega (arith, whole, below));
      farthest = λ other h. le-div other (2 * (digits * 1000000) + unit) (2 * unit) some (omega (arith, h.0));
    }

pub nearest_is : (digits unit size : ℕ) → 0 < unit → IsNearest digits unit size → size ≡ rounded_size digits unit
nearest_is digits unit size positive h =
    let other = rounded_nearest digits unit positive in
    let up = other.farthest size h.near in
    let down = h.farthest (rounded_size digits unit) other.near in
    omega (arith, up, down)
