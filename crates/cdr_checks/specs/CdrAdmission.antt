-- Which CDRs are admitted. A Credit CDR is asked only for its parties, its platform and its currency.
use Rattle.std.specs.Prelude.{ℕ, ℤ, pos, List, Option, Some, None, Result, Ok, Err, unsigned_abs, if◌then◌else◌}
use Rattle.jiff.specs.Types.{TimeZone as PlainZone, Timestamp}
use Rattle.ocpi_json.specs.declared.name.Name.{Name}
use Rattle.ocpi_json.specs.declared.name.Name.TheVariants as name
use Rattle.ocpi_types.specs.declared.cdr.Cdr.{Cdr}
use Rattle.ocpi_types.specs.declared.config.Config.{Config}
use Rattle.ocpi_types.specs.declared.refusal.Refusal.{Refusal}
use Rattle.ocpi_types.specs.Cdr.{is_credit}
use Rattle.ocpi_types.specs.Config.{operator_of}
use Rattle.cdr_rating.specs.Price.{price}
use Rattle.cdr_rating.specs.Volumes.{energy_of}
use Rattle.cdr_checks.specs.declared.cause.Cause.{Cause}
use Rattle.cdr_checks.specs.declared.cause.Reason.TheVariants.{OtherCurrency, BeforePreceding, TariffNotGiven, NotSupported, Reserved, OtherEnergy, AmountTooLarge, FarFromRated}
use Rattle.cdr_checks.specs.declared.place.Place.{Place}
use Rattle.cdr_checks.specs.Asking.{known_currency, known_provider, may_act, no_operator}
use Rattle.cdr_checks.specs.CdrConditions.{has_energy_of_periods, is_within_tolerance, other_currency, out_of_order, reservation, tariff_not_given, unsupported_tariff}
use Rattle.cdr_checks.specs.Checked.{Checked}
use Rattle.cdr_checks.specs.FirstRefusal.{◌>>=◌, ensure, or_refusal, unless}
use Rattle.cdr_checks.specs.Place.{at, declared_cost, in_item, inside, restriction_of_cdr, volume_at}

-- ---- causes, by what is found

abbrev pub in_other_currency : Cdr → ℕ × List ℕ → Cause
in_other_currency cdr found = record { place = in_item name.Tariffs found.0 name.Currency; reason = OtherCurrency found.1 cdr.currency }

abbrev pub before_preceding : Place × (Timestamp × Timestamp) → Cause
before_preceding found = record { place = found.0; reason = BeforePreceding found.1.0 found.1.1 }

abbrev pub of_no_tariff : ℕ × List ℕ → Cause
of_no_tariff found = record { place = in_item name.ChargingPeriods found.0 name.TariffId; reason = TariffNotGiven found.1 }

abbrev pub with_bound : ℕ × (ℕ × Name) → Cause
with_bound found = record { place = restriction_of_cdr found.0 found.1.0 found.1.1; reason = NotSupported }

abbrev pub with_reservation : ℕ × (ℕ × ℤ) → Cause
with_reservation found = record { place = volume_at found.0 found.1.0; reason = Reserved found.1.1 }

abbrev pub of_other_energy : Cdr → Cause
of_other_energy cdr = record { place = inside name.Cdr name.TotalEnergy; reason = OtherEnergy cdr.total_energy (energy_of cdr.charging_periods) }

abbrev pub too_large : Cause
too_large = record { place = at name.Cdr; reason = AmountTooLarge (pos 1_000_000_000_000) }

abbrev pub far_from : Cdr → ℤ → Cause
far_from cdr rated = record { place = declared_cost; reason = FarFromRated cdr.total_cost rated }

-- a price, of a CDR whose tariffs are all given: it is refused if it is too large
abbrev pub priced : Result ℤ Refusal → Result ℤ Cause
priced (Ok amount) = Ok amount
priced (Err refusal) = Err too_large

-- ---- the tests

-- what the session of a CDR that is no Credit CDR costs, in ten-thousandths
unfoldable pub rated_cost : Config → PlainZone → Cdr → Result ℕ Cause
rated_cost config zone cdr = do
  _ ← unless (other_currency cdr) (in_other_currency cdr)
  _ ← unless (out_of_order cdr) before_preceding
  _ ← unless (tariff_not_given cdr) of_no_tariff
  _ ← unless (unsupported_tariff cdr) with_bound
  _ ← unless (reservation cdr) with_reservation
  _ ← ensure (has_energy_of_periods cdr) (of_other_energy cdr)
  amount ← priced (price cdr zone)
  _ ← ensure (is_within_tolerance config.tolerance cdr.total_cost amount) (far_from cdr amount)
  Ok (unsigned_abs amount)

-- none of a Credit CDR
abbrev pub session_cost : Config → PlainZone → Cdr → Result (Option ℕ) Cause
session_cost config zone cdr = if is_credit cdr then Ok None else (rated_cost config zone cdr >>= λ cost. Ok (Some cost))

-- the CDR with its operator's zone and its cost, or why it is refused
unfoldable pub checked_of : Config → List ℕ → Cdr → Result Checked Cause
checked_of config platform cdr = do
  operator ← or_refusal (no_operator (at name.Cdr) cdr.operator) (operator_of config cdr.operator)
  _ ← known_provider config (inside name.Cdr name.CdrToken) cdr.cdr_token.provider
  _ ← may_act config platform cdr.operator
  _ ← known_currency config (inside name.Cdr name.Currency) cdr.currency
  cost ← session_cost config operator.zone cdr
  Ok (record { cdr = cdr; zone = operator.zone; cost = cost })
