-- How large volumes are.
use Rattle.std.specs.Prelude.{ℕ, ◌*◌, ◌^◌}
use Rattle.ocpi_types.specs.declared.component.ComponentKind.{ComponentKind}
use Rattle.ocpi_types.specs.declared.component.ComponentKind.TheVariants.{Energy, Flat, ParkingTime, Time}

-- the most that a row can have
abbrev pub most_of : ComponentKind → ℕ
most_of Energy = 10 ^ 17
most_of Flat = 1
most_of ParkingTime = 4 * 10 ^ 14
most_of Time = 4 * 10 ^ 14
