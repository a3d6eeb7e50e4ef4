use Rattle.std.proofs.Common.{◌≡◌, ◌*◌, ◌^◌, ◌≤◌, take}
use Rattle.std.specs.Prelude.{sum_by}
use Rattle.ocpi_types.specs.declared.component.ComponentKind.TheVariants.{Energy}
use Rattle.cdr_rating.specs.Volumes.{volume_in}
use Rattle.cdr_rating.proofs.volumes.energy_of.Given as goal

abbrev pub invariant-loop-period : goal.invariant-loop-period
invariant-loop-period l = record {
  value : l.total ≡ sum_by (volume_in Energy) (take l.period-index l.periods);
  bound : l.total ≤ l.period-index * 10 ^ 17;
}
