use Rattle.std.proofs.Common.{◌≡◌, ◌*◌, ◌^◌, ◌≤◌, take, false}
use Rattle.std.specs.Prelude.{sum_by}
use Rattle.std.specs.List.{list_any}
use Rattle.ocpi_types.specs.declared.component.ComponentKind.TheVariants.{Energy, ParkingTime, Time}
use Rattle.cdr_rating.specs.declared.measure.Measure.TheVariants as measure
use Rattle.cdr_rating.specs.Pricing.{lacks_its_tariff}
use Rattle.cdr_rating.specs.Inner.Tally.{tally_of}
use Rattle.cdr_rating.specs.Volumes.{volume_in}
use Rattle.cdr_rating.proofs.Prices.{priced_among, IsWithinPeriods}
use Rattle.cdr_rating.proofs.charging.tallies_of.Given as goal

abbrev pub invariant-loop-period : goal.invariant-loop-period
invariant-loop-period l = record {
  given : list_any (lacks_its_tariff l.cdr) (take l.period-index l.periods) ≡ false;
  energy_before : l.energy ≡ sum_by (volume_in Energy) (take l.period-index l.periods);
  energy_bound : l.energy ≤ l.period-index * 10 ^ 17;
  energy : l.tallies.energy ≡ tally_of measure.Energy (priced_among l.cdr l.zone Energy (take l.period-index l.periods));
  parking : l.tallies.parking ≡ tally_of measure.Time (priced_among l.cdr l.zone ParkingTime (take l.period-index l.periods));
  time : l.tallies.time ≡ tally_of measure.Time (priced_among l.cdr l.zone Time (take l.period-index l.periods));
  energy_within : IsWithinPeriods l.period-index l.tallies.energy;
  parking_within : IsWithinPeriods l.period-index l.tallies.parking;
  time_within : IsWithinPeriods l.period-index l.tallies.time;
}
