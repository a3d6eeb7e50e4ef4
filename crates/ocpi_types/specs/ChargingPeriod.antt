-- A charging period (OCPI 2.2.1, ChargingPeriod object): 1 to 100 dimensions from a moment on.
use Rattle.std.specs.Prelude.{Bool, Result, Ok}
use Rattle.std.specs.List.{list_all}
use Rattle.json.specs.Json.{Json as Data}
use Rattle.ocpi_json.specs.Fields.{ascii, list, moment, optional, required}
use Rattle.ocpi_json.specs.Members.{◌>>=◌, each}
use Rattle.ocpi_json.specs.declared.member_fault.MemberFault.{MemberFault}
use Rattle.ocpi_json.specs.declared.name.Name.TheVariants as name
use Rattle.ocpi_types.specs.Dimension.{dimension_at, is_in_range}
use Rattle.ocpi_types.specs.declared.charging_period.ChargingPeriod.{ChargingPeriod}

unfoldable pub period_at : Data → Result ChargingPeriod MemberFault
period_at node = do
  start_date_time ← required moment name.StartDateTime node
  items ← required (list 1 100) name.Dimensions node
  dimensions ← each name.Dimensions dimension_at items
  tariff_id ← optional (ascii 36) name.TariffId node
  Ok (record { start_date_time = start_date_time; dimensions = dimensions; tariff_id = tariff_id })

-- no volume of energy or time is below 0
abbrev pub has_volumes_in_range : ChargingPeriod → Bool
has_volumes_in_range period = list_all is_in_range period.dimensions
