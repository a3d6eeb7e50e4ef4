-- A price component of a tariff element (OCPI 2.2.1, PriceComponent object).
use Rattle.std.specs.Prelude.{ℕ, List, Bool, true, false, codes, Option, Some, None, Result, Ok, if◌then◌else◌}
use Rattle.std.specs.Str.{bytes_eq}
use Rattle.json.specs.Json.{Json as Data}
use Rattle.ocpi_json.specs.Fields.{Kind, parsed, required, whole}
use Rattle.ocpi_json.specs.Members.{◌>>=◌}
use Rattle.ocpi_json.specs.declared.expected.Expected.TheVariants as expected
use Rattle.ocpi_json.specs.declared.member_fault.MemberFault.{MemberFault}
use Rattle.ocpi_json.specs.declared.name.Name.TheVariants as name
use Rattle.ocpi_types.specs.Members.{quantity}
use Rattle.ocpi_types.specs.declared.component.ComponentKind.{ComponentKind}
use Rattle.ocpi_types.specs.declared.component.ComponentKind.TheVariants.{Energy, Flat, ParkingTime, Time}
use Rattle.ocpi_types.specs.declared.component.PriceComponent.{PriceComponent}

-- the kind that a text names (OCPI 2.2.1, TariffDimensionType enum)
abbrev pub component_kind_of : List ℕ → Option ComponentKind
component_kind_of text =
    if bytes_eq text (codes "ENERGY") then Some Energy
    else (if bytes_eq text (codes "FLAT") then Some Flat
    else (if bytes_eq text (codes "PARKING_TIME") then Some ParkingTime
    else (if bytes_eq text (codes "TIME") then Some Time else None)))

abbrev pub a_component_kind : Kind ComponentKind
a_component_kind = parsed expected.ComponentKind component_kind_of

abbrev pub same_component_kind : ComponentKind → ComponentKind → Bool
same_component_kind Energy Energy = true
same_component_kind Flat Flat = true
same_component_kind ParkingTime ParkingTime = true
same_component_kind Time Time = true
same_component_kind a b = false

unfoldable pub component_at : Data → Result PriceComponent MemberFault
component_at node = do
  kind ← required a_component_kind name.«Type» node
  price ← required quantity name.Price node
  step_size ← required (whole 0 1_000_000_000) name.StepSize node
  Ok (record { kind = kind; price = price; step_size = step_size })
