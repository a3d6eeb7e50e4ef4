use Rattle.std.proofs.Common.{◌≡◌, ◌*◌, ◌^◌, ◌≤◌, take}
use Rattle.ocpi_types.specs.declared.component.ComponentKind.TheVariants.{Energy, ParkingTime, Time}
use Rattle.cdr_rating.proofs.Counted.{counted}
use Rattle.cdr_rating.proofs.volumes.millionths_by_kind.Given as goal

abbrev pub invariant-loop-dimension : goal.invariant-loop-dimension
invariant-loop-dimension l = record {
  energy : l.energy ≡ counted Energy (take l.dimension-index l.dimensions);
  parking : l.parking ≡ counted ParkingTime (take l.dimension-index l.dimensions);
  time : l.time ≡ counted Time (take l.dimension-index l.dimensions);
  energy_bound : l.energy ≤ l.dimension-index * 10 ^ 15;
  parking_bound : l.parking ≤ l.dimension-index * 10 ^ 15;
  time_bound : l.time ≤ l.dimension-index * 10 ^ 15;
}
