-- The value that a line's value is compared with: the column `against` of the table.
use Rattle.std.specs.Prelude.{Bool, true}
use Rattle.ocpi_json.specs.declared.expected.Expected.{Expected}
use Rattle.ocpi_json.specs.declared.expected.Expected.TheVariants as expected
use Rattle.house_causes.specs.declared.request_cause.RequestCause.{RequestCause}
use Rattle.house_causes.specs.declared.request_cause.RequestCause.TheVariants.{NotAdmitted, ByHouse}
use Rattle.line_causes.specs.HouseColumns.{house_against}
use Rattle.line_causes.specs.ReasonColumns.{reason_against}
use Rattle.line_causes.specs.declared.line_cause.LineCause.{LineCause}
use Rattle.line_causes.specs.declared.line_cause.LineCause.TheVariants as line
use Rattle.line_causes.specs.declared.value.Value.{Value}
use Rattle.line_causes.specs.declared.value.Value.TheVariants as value

abbrev pub request_against : RequestCause → Value
request_against (NotAdmitted cause) = reason_against cause.reason
request_against (ByHouse cause) = house_against cause.reason

-- what a member has to be; a stream has a command more
abbrev pub member_against : Expected → Bool → Value
member_against expected.Hub of_stream = value.Nothing
member_against expected.Command true = value.StreamCommand
member_against other of_stream = value.Expected other

abbrev pub against_of : LineCause → Value
against_of (line.NotUtf8 column) = value.Nothing
against_of (line.NotJson column) = value.Nothing
against_of (line.Member fault found of_stream) = member_against fault.expected of_stream
against_of (line.Request cause) = request_against cause
against_of (line.ComesOutOtherwise event kind) = value.Nothing
against_of (line.IdOfAnotherLine id) = value.Nothing
against_of line.Unknown = value.Nothing
