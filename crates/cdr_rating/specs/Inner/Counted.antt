-- What the dimensions of a period count.
use Rattle.std.specs.Prelude.{◌≡◌, ℕ, ◌*◌, ◌^◌, ◌≤◌, if◌then◌else◌, unsigned_abs}
use Rattle.ocpi_types.specs.declared.charging_period.ChargingPeriod.{ChargingPeriod}
use Rattle.ocpi_types.specs.declared.component.ComponentKind.{ComponentKind}
use Rattle.ocpi_types.specs.declared.component.ComponentKind.TheVariants.{Energy, ParkingTime, Time}
use Rattle.ocpi_types.specs.declared.dimension.Dimension.{Dimension}
use Rattle.cdr_rating.specs.declared.volumes.Volumes.{Volumes}
use Rattle.cdr_rating.specs.Volumes.{charges_for, volume_in}

-- what one dimension counts for components of a kind
abbrev pub millionths_of : ComponentKind → Dimension → ℕ
millionths_of kind dimension = if charges_for kind dimension.kind then unsigned_abs dimension.volume else 0

-- the volumes of a period
pub record AreOfPeriod (period : ChargingPeriod) (volumes : Volumes) : Type 0 where
  pub energy : volumes.energy ≡ volume_in Energy period
  pub parking : volumes.parking ≡ volume_in ParkingTime period
  pub time : volumes.time ≡ volume_in Time period
  pub energy_bound : volumes.energy ≤ 10 ^ 17
  pub parking_bound : volumes.parking ≤ 4 * 10 ^ 14
  pub time_bound : volumes.time ≤ 4 * 10 ^ 14
