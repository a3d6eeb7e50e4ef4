-- What the charging periods of a session count (OCPI 2.2.1, CDR object, ChargingPeriod object and CdrDimension object).
use Rattle.std.specs.Prelude.{ℕ, ◌+◌, ◌*◌, ◌/◌, ◌^◌, Bool, false, List, [], ◌∷◌, ◌++◌, filter, sum_by, Option, Some, None, unsigned_abs}
use Rattle.std.specs.Option.{option_map_or}
use Rattle.ocpi_types.specs.Component.{same_component_kind}
use Rattle.ocpi_types.specs.declared.charging_period.ChargingPeriod.{ChargingPeriod}
use Rattle.ocpi_types.specs.declared.component.ComponentKind.{ComponentKind}
use Rattle.ocpi_types.specs.declared.component.ComponentKind.TheVariants as component
use Rattle.ocpi_types.specs.declared.dimension.DimensionKind.{DimensionKind}
use Rattle.ocpi_types.specs.declared.dimension.DimensionKind.TheVariants as dimension

-- the kind of component that charges for what a dimension counts
abbrev pub charging_kind : DimensionKind → Option ComponentKind
charging_kind dimension.Energy = Some component.Energy
charging_kind dimension.ParkingTime = Some component.ParkingTime
charging_kind dimension.ReservationTime = None
charging_kind dimension.Time = Some component.Time
charging_kind (dimension.Other text) = None

-- components of the kind charge for the dimension
abbrev pub charges_for : ComponentKind → DimensionKind → Bool
charges_for kind counted = option_map_or (λ charging. same_component_kind charging kind) (charging_kind counted) false

-- the volumes of one kind in a period, added: millionths of a kWh or of an hour
abbrev pub millionths_in : ComponentKind → ChargingPeriod → ℕ
millionths_in kind period = sum_by (λ d. unsigned_abs d.volume) (filter (λ d. charges_for kind d.kind) period.dimensions)

-- millionths of an hour in seconds, half a second and more rounded up
abbrev pub seconds_of_hours : ℕ → ℕ
seconds_of_hours millionths = (millionths * 3600 + 500_000) / 1_000_000

-- the volume that a period is charged for: millionths of a kWh, or seconds
abbrev pub volume_in : ComponentKind → ChargingPeriod → ℕ
volume_in component.Energy period = millionths_in component.Energy period
volume_in component.ParkingTime period = seconds_of_hours (millionths_in component.ParkingTime period)
volume_in component.Time period = seconds_of_hours (millionths_in component.Time period)
volume_in component.Flat period = 0

-- no period is charged for more, since it has at most 100 dimensions of at most 10^15 millionths each
abbrev pub most_volume : ComponentKind → ℕ
most_volume component.Energy = 10 ^ 17
most_volume component.ParkingTime = 4 * 10 ^ 14
most_volume component.Time = 4 * 10 ^ 14
most_volume component.Flat = 0

-- the energy of periods, in millionths of a kWh
abbrev pub energy_of : List ChargingPeriod → ℕ
energy_of periods = sum_by (volume_in component.Energy) periods

-- each period with those before it
abbrev pub with_earlier : List ChargingPeriod → List ChargingPeriod → List (List ChargingPeriod × ChargingPeriod)
with_earlier earlier [] = []
with_earlier earlier (period ∷ later) = (earlier, period) ∷ with_earlier (earlier ++ period ∷ []) later
