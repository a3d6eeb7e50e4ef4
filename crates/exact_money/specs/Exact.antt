-- How an exact sum is rounded to an amount.
use Rattle.std.specs.Prelude.{ℕ, ◌+◌, ◌*◌, ◌^◌, ◌≤◌, ◌<◌}

-- the whole ten-thousandths of so many units, of which 9 * 10^8 are one: half and more goes up
pub record IsRoundedHalfUp (units size : ℕ) : Type 0 where
  pub not_above : size * (9 * 10 ^ 8) ≤ units + 45 * 10 ^ 7
  pub below_next : units + 45 * 10 ^ 7 < (size + 1) * (9 * 10 ^ 8)
