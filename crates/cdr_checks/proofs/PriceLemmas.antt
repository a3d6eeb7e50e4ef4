-- A price is at least 0 and at most 10^12 ten-thousandths.
use Rattle.std.proofs.Common.{◌≡◌, ℕ, ℤ, pos, ◌≤◌, Bool, true, false, Ok, Err, unsigned_abs, refl}
use Rattle.std.specs.Prelude.{nat_lt, IfOk, if◌then◌else◌}
use Rattle.std.proofs.lemmas.Bool.{ltb-false}
use Rattle.jiff.specs.Types.{TimeZone as PlainZone}
use Rattle.ocpi_types.specs.declared.cdr.Cdr.{Cdr}
use Rattle.ocpi_types.specs.declared.refusal.Refusal.{Refusal}
use Rattle.ocpi_types.specs.declared.refusal.Refusal.TheVariants.{TariffNotGiven, AmountTooLarge}
use Rattle.cdr_rating.specs.Price.{price, rounded_amount, within_limit}
use Rattle.cdr_rating.specs.Pricing.{lacks_tariff}

pub record IsWithinLimit (amount : ℤ) : Type 0 where
  pub not_negative : amount ≡ pos (unsigned_abs amount)
  pub within_limit : unsigned_abs amount ≤ 1_000_000_000_000

limited-within : (n : ℕ) (above : Bool) → nat_lt 1_000_000_000_000 n ≡ above
    → IfOk {T = ℤ} {E = Refusal} (if above then Err AmountTooLarge else Ok (pos n)) IsWithinLimit
limited-within n true test = tt
limited-within n false test = record { not_negative = refl; within_limit = ltb-false 1_000_000_000_000 n test }

priced-within : (n : ℕ) (lacks : Bool) → IfOk {T = ℤ} {E = Refusal} (if lacks then Err TariffNotGiven else within_limit n) IsWithinLimit
priced-within n true = tt
priced-within n false = limited-within n (nat_lt 1_000_000_000_000 n) refl

pub price-within : (cdr : Cdr) (zone : PlainZone) → IfOk (price cdr zone) IsWithinLimit
unfolding price
price-within cdr zone = priced-within (rounded_amount cdr zone) (lacks_tariff cdr)
