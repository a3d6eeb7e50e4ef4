-- The value in a line that is wrong: the column `found` of the table.
use Rattle.std.specs.Prelude.{ℕ, List, Option, Some, None}
use Rattle.ocpi_json.specs.declared.expected.Expected.{Expected}
use Rattle.ocpi_json.specs.declared.expected.Expected.TheVariants as expected
use Rattle.house_causes.specs.declared.request_cause.RequestCause.{RequestCause}
use Rattle.house_causes.specs.declared.request_cause.RequestCause.TheVariants.{NotAdmitted, ByHouse}
use Rattle.line_causes.specs.HouseColumns.{house_found}
use Rattle.line_causes.specs.ReasonColumns.{reason_found}
use Rattle.line_causes.specs.declared.line_cause.LineCause.{LineCause}
use Rattle.line_causes.specs.declared.line_cause.LineCause.TheVariants as line
use Rattle.line_causes.specs.declared.value.Value.{Value}
use Rattle.line_causes.specs.declared.value.Value.TheVariants as value

abbrev pub request_found : RequestCause → Value
request_found (NotAdmitted cause) = reason_found cause.reason
request_found (ByHouse cause) = house_found cause.reason

-- the value in the place of a member
abbrev pub standing : Option (List ℕ) → Value
standing None = value.Absent
standing (Some text) = value.Written text

-- the same, except for platforms without a hub
abbrev pub member_found : Expected → Option (List ℕ) → Value
member_found expected.Hub found = value.Nothing
member_found other found = standing found

abbrev pub found_of : LineCause → Value
found_of (line.NotUtf8 column) = value.Nothing
found_of (line.NotJson column) = value.Nothing
found_of (line.Member fault found of_stream) = member_found fault.expected found
found_of (line.Request cause) = request_found cause
found_of (line.ComesOutOtherwise event kind) = value.Written kind
found_of (line.IdOfAnotherLine id) = value.Written id
found_of line.Unknown = value.Nothing
