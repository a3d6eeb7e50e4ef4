-- What is asked of a CDR that is no Credit CDR, beside its parties (OCPI 2.2.1, CDR object; the bounds are own): of each test, what is
-- found if it fails.
use Rattle.std.specs.Prelude.{ℕ, ◌+◌, ℤ, pos, ◌-ℤ◌, ◌*ℤ◌, ◌*◌, unsigned_abs, int_lt, nat_le, Bool, true, false, ◌&&◌, List, [], ◌∷◌, Option, Some, None, if◌then◌else◌}
use Rattle.jiff.specs.Types.{Timestamp}
use Rattle.ocpi_json.specs.declared.name.Name.{Name}
use Rattle.ocpi_json.specs.declared.name.Name.TheVariants as name
use Rattle.ocpi_types.specs.declared.cdr.Cdr.{Cdr}
use Rattle.ocpi_types.specs.declared.charging_period.ChargingPeriod.{ChargingPeriod}
use Rattle.ocpi_types.specs.declared.dimension.Dimension.{Dimension}
use Rattle.ocpi_types.specs.declared.dimension.DimensionKind.{DimensionKind}
use Rattle.ocpi_types.specs.declared.dimension.DimensionKind.TheVariants as dimension
use Rattle.ocpi_types.specs.declared.tariff.Tariff.{Tariff}
use Rattle.ocpi_types.specs.Currency.{same_currency}
use Rattle.tariff_elements.specs.FirstOf.{first_of}
use Rattle.tariff_elements.specs.Support.{unsupported}
use Rattle.cdr_rating.specs.Pricing.{lacks_its_tariff}
use Rattle.cdr_rating.specs.Volumes.{energy_of}
use Rattle.cdr_checks.specs.declared.place.Place.{Place}
use Rattle.cdr_checks.specs.Place.{in_item, inside}

-- ---- its tariffs

abbrev pub currency_but : List ℕ → Tariff → Option (List ℕ)
currency_but currency tariff = if same_currency tariff.currency currency then None else Some tariff.currency

-- the first tariff that has another currency than the CDR, by its number, and that currency
abbrev pub other_currency : Cdr → Option (ℕ × List ℕ)
other_currency cdr = first_of (currency_but cdr.currency) cdr.tariffs

abbrev pub id_not_given : Cdr → ChargingPeriod → Option (List ℕ)
id_not_given cdr period = if lacks_its_tariff cdr period then period.tariff_id else None

-- the first charging period that names a tariff which the CDR does not have, and the id
abbrev pub tariff_not_given : Cdr → Option (ℕ × List ℕ)
tariff_not_given cdr = first_of (id_not_given cdr) cdr.charging_periods

-- the first tariff with a bound on current or power, with the element and the bound
abbrev pub unsupported_tariff : Cdr → Option (ℕ × (ℕ × Name))
unsupported_tariff cdr = first_of unsupported cdr.tariffs

-- ---- its moments

-- the first of these that is before the one in front of it, and that one: a moment, the starts of charging periods, of which the first
-- has the number that is given, and an end
abbrev pub out_of_order_from : ℕ → Timestamp → List ChargingPeriod → Timestamp → Option (Place × (Timestamp × Timestamp))
out_of_order_from number latest [] end =
    if int_lt end.nanosecond latest.nanosecond then Some (inside name.Cdr name.EndDateTime, (end, latest)) else None
out_of_order_from number latest (period ∷ later) end =
    if int_lt period.start_date_time.nanosecond latest.nanosecond
    then Some (in_item name.ChargingPeriods number name.StartDateTime, (period.start_date_time, latest))
    else out_of_order_from (number + 1) period.start_date_time later end

abbrev pub out_of_order : Cdr → Option (Place × (Timestamp × Timestamp))
out_of_order cdr = out_of_order_from 0 cdr.start_date_time cdr.charging_periods cdr.end_date_time

-- ---- its volumes

abbrev pub counts_reservation : DimensionKind → Bool
counts_reservation dimension.ReservationTime = true
counts_reservation dimension.Energy = false
counts_reservation dimension.ParkingTime = false
counts_reservation dimension.Time = false
counts_reservation (dimension.Other text) = false

-- a RESERVATION_TIME volume above 0
abbrev pub reserved : Dimension → Option ℤ
reserved counted = if counts_reservation counted.kind && int_lt (pos 0) counted.volume then Some counted.volume else None

abbrev pub reserved_in : ChargingPeriod → Option (ℕ × ℤ)
reserved_in period = first_of reserved period.dimensions

-- the first charging period with such a volume, with the dimension and the volume
abbrev pub reservation : Cdr → Option (ℕ × (ℕ × ℤ))
reservation cdr = first_of reserved_in cdr.charging_periods

-- `total_energy` is at most 0.01 kWh, which is 10,000 millionths, from the sum of its ENERGY volumes
abbrev pub has_energy_of_periods : Cdr → Bool
has_energy_of_periods cdr = nat_le (unsigned_abs (cdr.total_energy -ℤ pos (energy_of cdr.charging_periods))) 10_000

-- ---- its cost

-- a declared cost in millionths is at most the tolerance, in ten-thousandths, from an amount in ten-thousandths
abbrev pub is_within_tolerance : ℕ → ℤ → ℤ → Bool
is_within_tolerance tolerance declared amount = nat_le (unsigned_abs (declared -ℤ pos 100 *ℤ amount)) (100 * tolerance)
