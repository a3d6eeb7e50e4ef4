-- A CDR that is admitted, with its operator's zone and what its session costs.
use Rattle.std.specs.Prelude.{◌≡◌, ℕ, pos, true, false, Option, Some, None, Ok}
use Rattle.jiff.specs.Types.{TimeZone as PlainZone}
use Rattle.ocpi_types.specs.declared.cdr.Cdr.{Cdr}
use Rattle.ocpi_types.specs.Cdr.{is_credit}
use Rattle.cdr_rating.specs.Price.{price}

-- the cost in ten-thousandths of the currency unit
pub record Checked : Type 0 where
  pub cdr : Cdr
  pub zone : PlainZone
  pub cost : Option ℕ

-- a Credit CDR has no cost, and any other has its price in the zone
abbrev pub IsCostOf : Option ℕ → Cdr → PlainZone → Type 0
IsCostOf None cdr zone = is_credit cdr ≡ true
IsCostOf (Some amount) cdr zone = (is_credit cdr ≡ false) × (price cdr zone ≡ Ok (pos amount))
