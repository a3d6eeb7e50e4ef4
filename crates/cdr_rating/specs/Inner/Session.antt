-- The tallies of a session and what a period adds to them.
use Rattle.std.specs.Prelude.{◌≡◌, ℕ, ◌^◌, ◌≤◌}
use Rattle.jiff.specs.Types.{TimeZone as PlainZone}
use Rattle.ocpi_types.specs.declared.cdr.Cdr.{Cdr}
use Rattle.ocpi_types.specs.declared.charging_period.ChargingPeriod.{ChargingPeriod}
use Rattle.ocpi_types.specs.declared.component.ComponentKind.TheVariants.{Energy, ParkingTime, Time}
use Rattle.cdr_rating.specs.declared.charging.Tallies.{Tallies}
use Rattle.cdr_rating.specs.declared.measure.Measure.TheVariants as measure
use Rattle.cdr_rating.specs.Pricing.{active_after, priced_volumes}
use Rattle.cdr_rating.specs.Inner.Room.{IsOneMore}
use Rattle.cdr_rating.specs.Inner.Tally.{added, tally_of}
use Rattle.cdr_rating.specs.Volumes.{volume_in}

-- the period's volumes are added at the components that are active
pub record IsCharged (cdr : Cdr) (zone : PlainZone) (before : ℕ) (period : ChargingPeriod) (old new : Tallies) : Type 0 where
  pub energy : new.energy ≡ added old.energy (active_after cdr zone Energy before period) (volume_in Energy period)
  pub parking : new.parking ≡ added old.parking (active_after cdr zone ParkingTime before period) (volume_in ParkingTime period)
  pub time : new.time ≡ added old.time (active_after cdr zone Time before period) (volume_in Time period)
  pub energy_within : IsOneMore old.energy new.energy
  pub parking_within : IsOneMore old.parking new.parking
  pub time_within : IsOneMore old.time new.time

-- each tally is that of the session's priced volumes
pub record AreOfSession (cdr : Cdr) (zone : PlainZone) (tallies : Tallies) : Type 0 where
  pub energy : tallies.energy ≡ tally_of measure.Energy (priced_volumes cdr zone Energy)
  pub parking : tallies.parking ≡ tally_of measure.Time (priced_volumes cdr zone ParkingTime)
  pub time : tallies.time ≡ tally_of measure.Time (priced_volumes cdr zone Time)
  pub energy_within : tallies.energy.cost ≤ 10 ^ 36
  pub parking_within : tallies.parking.cost ≤ 10 ^ 36
  pub time_within : tallies.time.cost ≤ 10 ^ 36
