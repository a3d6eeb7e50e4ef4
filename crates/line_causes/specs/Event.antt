-- The event that contradicts a line: the column `event` of the table.
use Rattle.std.specs.Prelude.{ℕ, Option, Some, None}
use Rattle.house_causes.specs.declared.request_cause.RequestCause.{RequestCause}
use Rattle.house_causes.specs.declared.request_cause.RequestCause.TheVariants.{NotAdmitted, ByHouse}
use Rattle.line_causes.specs.declared.line_cause.LineCause.{LineCause}
use Rattle.line_causes.specs.declared.line_cause.LineCause.TheVariants as line

abbrev pub event_of_request : RequestCause → Option ℕ
event_of_request (NotAdmitted cause) = None
event_of_request (ByHouse cause) = cause.event

-- its number, from 0
abbrev pub event_of : LineCause → Option ℕ
event_of (line.NotUtf8 column) = None
event_of (line.NotJson column) = None
event_of (line.Member fault found of_stream) = None
event_of (line.Request cause) = event_of_request cause
event_of (line.ComesOutOtherwise event kind) = Some event
event_of (line.IdOfAnotherLine id) = None
event_of line.Unknown = None
