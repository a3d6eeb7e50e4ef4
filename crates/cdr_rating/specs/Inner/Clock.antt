-- Where what a clock shows decides a cost.
use Rattle.std.specs.Prelude.{◌≡◌, ◌⊎◌, ◌==◌, ◌&&◌, ◌||◌, ℕ, Bool, true, not}
use Rattle.ocpi_types.specs.declared.component.ComponentKind.{ComponentKind}
use Rattle.ocpi_types.specs.declared.component.ComponentKind.TheVariants.{Energy, ParkingTime, Time}
use Rattle.ocpi_types.specs.declared.tariff.Tariff.{Tariff}
use Rattle.tariff_elements.specs.Clock.{asks_clock, IsActiveAnyTime}
use Rattle.tariff_elements.specs.LocalTime.{LocalMoment}
use Rattle.cdr_rating.specs.declared.volumes.Volumes.{Volumes}

-- for a volume of the kind
abbrev pub is_asked : Tariff → ComponentKind → ℕ → Bool
is_asked tariff kind volume = not (volume == 0) && asks_clock tariff kind

-- for one of the volumes of a period
abbrev pub is_asked_in : Tariff → Volumes → Bool
is_asked_in tariff volumes =
    is_asked tariff Energy volumes.energy || is_asked tariff ParkingTime volumes.parking || is_asked tariff Time volumes.time

-- there is no volume, or the same component prices it whatever a clock shows
abbrev pub IsCountedAnyTime : Tariff → ComponentKind → ℕ → Type 0
IsCountedAnyTime tariff kind volume = (volume ≡ 0) ⊎ IsActiveAnyTime tariff kind

-- the moments are the same, but for what the clock shows where it is not asked
pub record IsSameBut (asks_clock : Bool) (m n : LocalMoment) : Type 0 where
  pub asked : asks_clock ≡ true → m ≡ n
  pub energy : m.energy ≡ n.energy
  pub seconds : m.seconds ≡ n.seconds
