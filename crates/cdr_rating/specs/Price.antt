-- What a session costs by its tariffs (OCPI 2.2.1, CDR object, `total_cost`; Tariff object). The exact unit is 1/(9 * 10^12) of
-- the currency unit: a price in millionths per kWh for millionths of a kWh comes to 9 units, one per hour for seconds to 2,500, and a
-- price that is due once to 9,000,000.
use Rattle.std.specs.Prelude.{ℕ, ℤ, pos, ◌+◌, ◌-◌, ◌*◌, ◌/◌, ◌%◌, ◌==◌, nat_lt, List, [], ◌∷◌, find, reverse, sum_by, Option, Some, None, Result, Ok, Err, if◌then◌else◌}
use Rattle.std.specs.Option.{option_map_or}
use Rattle.jiff.specs.Types.{TimeZone as PlainZone}
use Rattle.ocpi_types.specs.declared.cdr.Cdr.{Cdr}
use Rattle.ocpi_types.specs.declared.charging_period.ChargingPeriod.{ChargingPeriod}
use Rattle.ocpi_types.specs.declared.component.ComponentKind.TheVariants.{Energy, Flat, ParkingTime, Time}
use Rattle.ocpi_types.specs.declared.refusal.Refusal.{Refusal}
use Rattle.ocpi_types.specs.declared.refusal.Refusal.TheVariants.{TariffNotGiven, AmountTooLarge}
use Rattle.ocpi_types.specs.declared.tariff.Tariff.{Tariff}
use Rattle.cdr_rating.specs.Pricing.{priced_volumes, active_after, tariff_of, lacks_tariff}
use Rattle.cdr_rating.specs.declared.tally.Priced.{Priced}

abbrev pub total_volume : List Priced → ℕ
total_volume volumes = sum_by (λ p. p.volume) volumes

-- what the volumes cost as they are
abbrev pub cost_of : ℕ → List Priced → ℕ
cost_of factor volumes = sum_by (λ p. factor * p.price * p.volume) volumes

-- ---- steps

-- the least x that makes the volume plus x a multiple of the step; a step of 0 rounds nothing
abbrev pub up_to_step : ℕ → ℕ → ℕ
up_to_step step volume = if step == 0 then 0 else (step - volume % step) % step

-- the last period in which there is a volume decides the step and its price
abbrev pub last_above_zero : List Priced → Option Priced
last_above_zero volumes = find (λ p. nat_lt 0 p.volume) (reverse volumes)

-- what rounding the whole volume up to its step costs, once; a step is so many volume units
abbrev pub step_cost : ℕ → ℕ → List Priced → ℕ
step_cost factor units volumes =
    option_map_or (λ last. factor * last.price * up_to_step (units * last.step_size) (total_volume volumes)) (last_above_zero volumes) 0

-- ---- the sum

abbrev pub energy_cost : List Priced → ℕ
energy_cost energy = cost_of 9 energy + step_cost 9 1000 energy

-- of the two kinds of time one alone is rounded up: parking where there is any
abbrev pub time_cost : List Priced → List Priced → ℕ
time_cost parking time =
    cost_of 2500 parking + cost_of 2500 time
    + (if nat_lt 0 (total_volume parking) then step_cost 2500 1 parking else step_cost 2500 1 time)

-- the flat component that is active where the session begins is due once
abbrev pub flat_cost : Cdr → PlainZone → List ChargingPeriod → ℕ
flat_cost cdr zone [] = 0
flat_cost cdr zone (first ∷ later) = option_map_or (λ component. 9_000_000 * component.price) (active_after cdr zone Flat 0 first) 0

abbrev pub sum_of : Cdr → PlainZone → ℕ
sum_of cdr zone =
    energy_cost (priced_volumes cdr zone Energy) + time_cost (priced_volumes cdr zone ParkingTime) (priced_volumes cdr zone Time)
    + flat_cost cdr zone cdr.charging_periods

-- ---- minimum and maximum

-- the tariff of the first period
abbrev pub first_tariff : Cdr → List ChargingPeriod → Option Tariff
first_tariff cdr [] = None
first_tariff cdr (first ∷ later) = tariff_of cdr first

abbrev pub raised : Option ℕ → ℕ → ℕ
raised None units = units
raised (Some least) units = if nat_lt units (9_000_000 * least) then 9_000_000 * least else units

abbrev pub lowered : Option ℕ → ℕ → ℕ
lowered None units = units
lowered (Some most) units = if nat_lt (9_000_000 * most) units then 9_000_000 * most else units

-- raised to the tariff's minimum, then lowered to its maximum
abbrev pub bounded : Option Tariff → ℕ → ℕ
bounded None units = units
bounded (Some tariff) units = lowered tariff.max_price (raised tariff.min_price units)

-- ---- the amount

-- in ten-thousandths, of which one is 9 * 10^8 units; half and more goes up
abbrev pub rounded : ℕ → ℕ
rounded units = (units + 450_000_000) / 900_000_000

abbrev pub rounded_amount : Cdr → PlainZone → ℕ
rounded_amount cdr zone = rounded (bounded (first_tariff cdr cdr.charging_periods) (sum_of cdr zone))

-- an amount is at most 10^12 ten-thousandths
abbrev pub within_limit : ℕ → Result ℤ Refusal
within_limit amount = if nat_lt 1_000_000_000_000 amount then Err AmountTooLarge else Ok (pos amount)

-- what the session of a CDR that is no Credit CDR costs, in ten-thousandths, or why it has no amount
unfoldable pub price : Cdr → PlainZone → Result ℤ Refusal
price cdr zone = if lacks_tariff cdr then Err TariffNotGiven else within_limit (rounded_amount cdr zone)
