-- How the kind of a dimension is kept.
use Rattle.std.specs.Prelude.{codes}
use Rattle.ocpi_types.specs.declared.dimension.DimensionKind.{DimensionKind}
use Rattle.ocpi_types.specs.declared.dimension.DimensionKind.TheVariants as kind
use Rattle.ocpi_types.specs.declared.kept_kind.Kept.{Kept}
use Rattle.ocpi_types.specs.declared.kept_kind.Kept.TheVariants as kept

abbrev pub kind_of : Kept → DimensionKind
kind_of kept.Energy = kind.Energy
kind_of kept.ParkingTime = kind.ParkingTime
kind_of kept.ReservationTime = kind.ReservationTime
kind_of kept.Time = kind.Time
kind_of kept.Current = kind.Other (codes "CURRENT")
kind_of kept.EnergyExport = kind.Other (codes "ENERGY_EXPORT")
kind_of kept.EnergyImport = kind.Other (codes "ENERGY_IMPORT")
kind_of kept.MaxCurrent = kind.Other (codes "MAX_CURRENT")
kind_of kept.MaxPower = kind.Other (codes "MAX_POWER")
kind_of kept.MinCurrent = kind.Other (codes "MIN_CURRENT")
kind_of kept.MinPower = kind.Other (codes "MIN_POWER")
kind_of kept.Power = kind.Other (codes "POWER")
kind_of kept.StateOfCharge = kind.Other (codes "STATE_OF_CHARGE")
kind_of (kept.Text text) = kind.Other text.value
