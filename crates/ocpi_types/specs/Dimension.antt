-- What a charging period counts (OCPI 2.2.1, CdrDimension object).
use Rattle.std.specs.Prelude.{ℕ, ℤ, pos, int_le, List, Bool, true, false, codes, Result, Ok, if◌then◌else◌}
use Rattle.std.specs.Str.{bytes_eq}
use Rattle.json.specs.Json.{Json as Data}
use Rattle.ocpi_json.specs.Fields.{number, required, text}
use Rattle.ocpi_json.specs.Members.{◌>>=◌}
use Rattle.ocpi_json.specs.declared.member_fault.MemberFault.{MemberFault}
use Rattle.ocpi_json.specs.declared.name.Name.TheVariants as name
use Rattle.ocpi_types.specs.declared.dimension.Dimension.{Dimension}
use Rattle.ocpi_types.specs.declared.dimension.DimensionKind.{DimensionKind}
use Rattle.ocpi_types.specs.declared.dimension.DimensionKind.TheVariants.{Energy, ParkingTime, ReservationTime, Time, Other}

-- the kind that a text names (OCPI 2.2.1, CdrDimensionType enum); every other text is kept
abbrev pub dimension_kind_of : List ℕ → DimensionKind
dimension_kind_of text =
    if bytes_eq text (codes "ENERGY") then Energy
    else (if bytes_eq text (codes "PARKING_TIME") then ParkingTime
    else (if bytes_eq text (codes "RESERVATION_TIME") then ReservationTime
    else (if bytes_eq text (codes "TIME") then Time else Other text)))

-- the same kind; the texts of other kinds are compared byte by byte
abbrev pub same_dimension_kind : DimensionKind → DimensionKind → Bool
same_dimension_kind Energy Energy = true
same_dimension_kind ParkingTime ParkingTime = true
same_dimension_kind ReservationTime ReservationTime = true
same_dimension_kind Time Time = true
same_dimension_kind (Other a) (Other b) = bytes_eq a b
same_dimension_kind a b = false

unfoldable pub dimension_kind_at : Data → Result DimensionKind MemberFault
dimension_kind_at node = do
  text ← required text name.«Type» node
  Ok (dimension_kind_of text)

unfoldable pub dimension_at : Data → Result Dimension MemberFault
dimension_at node = do
  kind ← dimension_kind_at node
  volume ← required number name.Volume node
  Ok (record { kind = kind; volume = volume })

-- a volume of energy or time is at least 0; others may be below
abbrev pub is_in_range_of : DimensionKind → ℤ → Bool
is_in_range_of Energy volume = int_le (pos 0) volume
is_in_range_of ParkingTime volume = int_le (pos 0) volume
is_in_range_of ReservationTime volume = int_le (pos 0) volume
is_in_range_of Time volume = int_le (pos 0) volume
is_in_range_of (Other called) volume = true

abbrev pub is_in_range : Dimension → Bool
is_in_range dimension = is_in_range_of dimension.kind dimension.volume
