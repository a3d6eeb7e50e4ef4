-- Which component is active in each charging period, and what it prices.
use Rattle.std.specs.Prelude.{ℕ, ℤ, ◌-ℤ◌, ◌/◌, ◌&&◌, not, int_lt, Bool, List, [], ◌∷◌, flat_map, find, Option, Some, None, is_some, option_and_then, unsigned_abs, if◌then◌else◌}
use Rattle.std.specs.List.{list_any}
use Rattle.jiff.specs.Types.{TimeZone as PlainZone}
use Rattle.ocpi_json.specs.Folded.{same_folded}
use Rattle.ocpi_types.specs.declared.cdr.Cdr.{Cdr}
use Rattle.ocpi_types.specs.declared.charging_period.ChargingPeriod.{ChargingPeriod}
use Rattle.ocpi_types.specs.declared.component.ComponentKind.{ComponentKind}
use Rattle.ocpi_types.specs.declared.component.PriceComponent.{PriceComponent}
use Rattle.ocpi_types.specs.declared.tariff.Tariff.{Tariff}
use Rattle.tariff_elements.specs.Active.{active}
use Rattle.tariff_elements.specs.LocalTime.{LocalMoment, moment_at}
use Rattle.cdr_rating.specs.declared.tally.Priced.{Priced}
use Rattle.cdr_rating.specs.Volumes.{energy_of, volume_in, with_earlier}

-- whole seconds from one instant to another, 0 where it is earlier
abbrev pub seconds_between : ℤ → ℤ → ℕ
seconds_between start instant = if int_lt instant start then 0 else unsigned_abs (instant -ℤ start) / 1_000_000_000

-- a period is judged at its start, with the energy of the earlier periods and the seconds since the session began
abbrev pub moment_after : Cdr → PlainZone → ℕ → ChargingPeriod → LocalMoment
moment_after cdr zone energy period =
    moment_at zone period.start_date_time.nanosecond energy
    (seconds_between cdr.start_date_time.nanosecond period.start_date_time.nanosecond)

-- the tariff that a period names: the first of the CDR's with that id
abbrev pub tariff_of : Cdr → ChargingPeriod → Option Tariff
tariff_of cdr period = option_and_then (λ id. find (λ tariff. same_folded tariff.id id) cdr.tariffs) period.tariff_id

-- the period names a tariff that the CDR does not have
abbrev pub lacks_its_tariff : Cdr → ChargingPeriod → Bool
lacks_its_tariff cdr period = is_some period.tariff_id && not (is_some (tariff_of cdr period))

-- a period does so
abbrev pub lacks_tariff : Cdr → Bool
lacks_tariff cdr = list_any (lacks_its_tariff cdr) cdr.charging_periods

-- the component that is active in a period, given the energy before it; none where it names no tariff
abbrev pub active_after : Cdr → PlainZone → ComponentKind → ℕ → ChargingPeriod → Option PriceComponent
active_after cdr zone kind energy period =
    option_and_then (λ tariff. active tariff kind (moment_after cdr zone energy period)) (tariff_of cdr period)

abbrev pub priced_at : Option PriceComponent → ℕ → List Priced
priced_at None volume = []
priced_at (Some component) volume = record { price = component.price; step_size = component.step_size; volume = volume } ∷ []

-- the priced volumes of one kind, in the order of the periods, each judged with the energy of the earlier ones
abbrev pub priced_volumes : Cdr → PlainZone → ComponentKind → List Priced
priced_volumes cdr zone kind =
    flat_map (λ p. priced_at (active_after cdr zone kind (energy_of p.0) p.1) (volume_in kind p.1)) (with_earlier [] cdr.charging_periods)
