-- One more dimension.
use Rattle.std.proofs.Common.{arith}
use Rattle.ocpi_types.specs.declared.component.ComponentKind.TheVariants.{Energy, ParkingTime, Time}
use Rattle.cdr_rating.proofs.Counted.{counted_more}
use Rattle.cdr_rating.proofs.volumes.millionths_by_kind.Goals as goal

pub loop-dimension-preserved : goal.loop-dimension-preserved
loop-dimension-preserved c =
    let held = c.loop-dimension.invariant in
    let dimensions = c.as_slice-dimensions.result.now in
    let i = c.loop-dimension.dimension-index in
    let dimension = c.dimension-item.result in
    let inside = c.loop-dimension-test.true in
    let here = c.dimension-item.is in
    record {
      energy = counted_more Energy dimensions i dimension _ _ inside here held.energy c.millionths_of-energy.ensures.value;
      parking = counted_more ParkingTime dimensions i dimension _ _ inside here held.parking c.millionths_of-parking.ensures.value;
      time = counted_more Time dimensions i dimension _ _ inside here held.time c.millionths_of-time.ensures.value;
      energy_bound = omega (arith, held.energy_bound, c.millionths_of-energy.ensures.bound);
      parking_bound = omega (arith, held.parking_bound, c.millionths_of-parking.ensures.bound);
      time_bound = omega (arith, held.time_bound, c.millionths_of-time.ensures.bound);
    }
