-- The place where a line is wrong.
use Rattle.std.specs.Prelude.{ℕ, List, [], ◌++◌, codes, decimal, Option, Some, None}
use Rattle.ocpi_json.specs.MemberPath.{around_text, step_text}
use Rattle.ocpi_json.specs.declared.member_fault.MemberFault.{MemberFault}
use Rattle.ocpi_json.specs.declared.name.Name.TheVariants as name
use Rattle.cdr_checks.specs.Place.{at}
use Rattle.cdr_checks.specs.declared.place.Place.{Place}
use Rattle.house_causes.specs.declared.request_cause.RequestCause.{RequestCause}
use Rattle.house_causes.specs.declared.request_cause.RequestCause.TheVariants.{NotAdmitted, ByHouse}
use Rattle.line_causes.specs.declared.line_cause.LineCause.{LineCause}
use Rattle.line_causes.specs.declared.line_cause.LineCause.TheVariants as line
use Rattle.line_causes.specs.declared.line_place.LinePlace.{LinePlace}
use Rattle.line_causes.specs.declared.line_place.LinePlace.TheVariants.{Nowhere, Column, Member}

-- the objects around the member, and the member
abbrev pub path_text : Place → List ℕ
path_text place = around_text place.around ++ step_text place.member

-- the column `place` of the table
unfoldable pub place_text : LinePlace → List ℕ
place_text Nowhere = []
place_text (Column column) = codes "column " ++ decimal column
place_text (Member place) = path_text place

-- the member that is missing, of a wrong kind or out of bounds
abbrev pub place_of_fault : MemberFault → LinePlace
place_of_fault fault = Member (record { around = fault.around; member = fault.member })

-- the member of the request, if there is one
abbrev pub place_if : Option Place → LinePlace
place_if None = Nowhere
place_if (Some place) = Member place

abbrev pub place_of_request : RequestCause → LinePlace
place_of_request (NotAdmitted cause) = Member cause.place
place_of_request (ByHouse cause) = place_if cause.place

abbrev pub place_of : LineCause → LinePlace
place_of (line.NotUtf8 column) = Column column
place_of (line.NotJson column) = Column column
place_of (line.Member fault found of_stream) = place_of_fault fault
place_of (line.Request cause) = place_of_request cause
place_of (line.ComesOutOtherwise event kind) = Member (at name.Configuration)
place_of (line.IdOfAnotherLine id) = Member (at name.RequestId)
place_of line.Unknown = Nowhere
