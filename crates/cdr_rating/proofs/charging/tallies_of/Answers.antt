-- One more period.
use Rattle.std.proofs.Common.{◌∙◌, arith}
use Rattle.ocpi_types.specs.declared.component.ComponentKind.TheVariants.{Energy, ParkingTime, Time}
use Rattle.cdr_rating.specs.declared.measure.Measure.TheVariants as measure
use Rattle.cdr_rating.proofs.Prices.{tally_kept, energy_kept, given_kept, within_periods-more}
use Rattle.cdr_rating.proofs.charging.tallies_of.Goals as goal

pub loop-period-preserved : goal.loop-period-preserved
loop-period-preserved c =
    let held = c.loop-period.invariant in
    let charged = c.in-Some.ensures.charged in
    let periods = c.as_slice-periods.result.now in
    let i = c.loop-period.period-index in
    let period = c.period-item.result in
    let inside = c.loop-period-test.true in
    let here = c.period-item.is in
    let old = c.loop-period.tallies in
    let new = c.in-Some.charged in
    record {
      given = given_kept c.args.cdr.now periods i period inside here held.given c.in-Some.ensures.lacks;
      energy_before = energy_kept periods i period c.loop-period.energy c.from-energy.result inside here held.energy_before (c.from-energy.ensures ∙ c.of-volumes.ensures.energy);
      energy_bound = omega arith;
      energy = tally_kept measure.Energy c.args.cdr.now c.args.zone.now Energy periods i period c.loop-period.energy old.energy new.energy inside here held.energy_before held.energy charged.energy;
      parking = tally_kept measure.Time c.args.cdr.now c.args.zone.now ParkingTime periods i period c.loop-period.energy old.parking new.parking inside here held.energy_before held.parking charged.parking;
      time = tally_kept measure.Time c.args.cdr.now c.args.zone.now Time periods i period c.loop-period.energy old.time new.time inside here held.energy_before held.time charged.time;
      energy_within = within_periods-more i old.energy new.energy held.energy_within charged.energy_within;
      parking_within = within_periods-more i old.parking new.parking held.parking_within charged.parking_within;
      time_within = within_periods-more i old.time new.time held.time_within charged.time_within;
    }
