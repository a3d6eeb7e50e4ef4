-- What a session costs, row by row: each charging period where a component is active, what rounding a whole volume up to its step
-- adds, and what is due once. Costs are exact, in the unit of cdr_rating: 1/(9 * 10^12) of the currency unit.
use Rattle.std.specs.Prelude.{ℕ, ◌*◌, nat_lt, List, [], ◌∷◌, ◌++◌, length, find, flat_map, reverse, sum_by, Option, Some, None, if◌then◌else◌}
use Rattle.std.specs.Option.{option_map_or}
use Rattle.jiff.specs.Types.{TimeZone as PlainZone}
use Rattle.ocpi_types.specs.declared.cdr.Cdr.{Cdr}
use Rattle.ocpi_types.specs.declared.charging_period.ChargingPeriod.{ChargingPeriod}
use Rattle.ocpi_types.specs.declared.component.ComponentKind.{ComponentKind}
use Rattle.ocpi_types.specs.declared.component.ComponentKind.TheVariants.{Energy, Flat, ParkingTime, Time}
use Rattle.ocpi_types.specs.declared.component.PriceComponent.{PriceComponent}
use Rattle.cdr_rating.specs.Price.{up_to_step}
use Rattle.cdr_rating.specs.Pricing.{active_after}
use Rattle.cdr_rating.specs.Volumes.{energy_of, volume_in, with_earlier}
use Rattle.input_reports.specs.declared.explain_cost.row.Row.{Row}
use Rattle.input_reports.specs.declared.explain_cost.row.Source.{Source}
use Rattle.input_reports.specs.declared.explain_cost.row.Source.TheVariants.{Period, Step, Once}

-- ---- a row

-- units for a price in millionths and one of the volume: a millionth of a kWh, a second, or 1 where the price is due once
abbrev pub factor_of : ComponentKind → ℕ
factor_of Energy = 9
factor_of Flat = 9_000_000
factor_of ParkingTime = 2500
factor_of Time = 2500

-- how much of the volume one of a step size is; what is due once has no steps
abbrev pub units_of : ComponentKind → ℕ
units_of Energy = 1000
units_of Flat = 0
units_of ParkingTime = 1
units_of Time = 1

abbrev pub row_of : ComponentKind → Source → ℕ → ℕ → ℕ → Row
row_of kind source price step_size volume = record {
  kind = kind;
  source = source;
  price = price;
  step_size = step_size;
  volume = volume;
  cost = factor_of kind * price * volume;
}

-- the volume at the price of the component that is active, if one is
abbrev pub row_at : ComponentKind → Source → Option PriceComponent → ℕ → List Row
row_at kind source None volume = []
row_at kind source (Some component) volume = row_of kind source component.price component.step_size volume ∷ []

-- ---- charging periods

-- of each period, by its number from 0, judged with the energy of the earlier ones
abbrev pub volume_rows : Cdr → PlainZone → ComponentKind → List Row
volume_rows cdr zone kind =
    flat_map (λ p. row_at kind (Period (length p.0)) (active_after cdr zone kind (energy_of p.0) p.1) (volume_in kind p.1))
    (with_earlier [] cdr.charging_periods)

-- ---- steps

abbrev pub whole_volume : List Row → ℕ
whole_volume rows = sum_by (λ row. row.volume) rows

-- the last in which there is a volume decides the step and its price
abbrev pub last_above_zero : List Row → Option Row
last_above_zero rows = find (λ row. nat_lt 0 row.volume) (reverse rows)

-- what rounds the whole volume up to the step
abbrev pub step_row : ComponentKind → ℕ → Row → Row
step_row kind volume last = row_of kind Step last.price last.step_size (up_to_step (units_of kind * last.step_size) volume)

-- one row, where there is a volume
abbrev pub step_rows : ComponentKind → List Row → List Row
step_rows kind rows = option_map_or (λ last. step_row kind (whole_volume rows) last ∷ []) (last_above_zero rows) []

abbrev pub stepped_rows : Cdr → PlainZone → ComponentKind → List Row
stepped_rows cdr zone kind = volume_rows cdr zone kind ++ step_rows kind (volume_rows cdr zone kind)

-- of the two kinds of time one alone is rounded up: parking where there is any
abbrev pub time_rows : Cdr → PlainZone → List Row
time_rows cdr zone =
    if nat_lt 0 (whole_volume (volume_rows cdr zone ParkingTime)) then volume_rows cdr zone Time else stepped_rows cdr zone Time

-- ---- all rows

-- the flat component that is active where the session begins is due once
abbrev pub flat_rows : Cdr → PlainZone → List ChargingPeriod → List Row
flat_rows cdr zone [] = []
flat_rows cdr zone (first ∷ later) = row_at Flat Once (active_after cdr zone Flat 0 first) 1

abbrev pub cost_rows : Cdr → PlainZone → List Row
cost_rows cdr zone =
    stepped_rows cdr zone Energy ++ stepped_rows cdr zone ParkingTime ++ time_rows cdr zone ++ flat_rows cdr zone cdr.charging_periods

abbrev pub whole_cost : List Row → ℕ
whole_cost rows = sum_by (λ row. row.cost) rows
