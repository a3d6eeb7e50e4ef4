-- Why a house refuses a line of a script, by what it replies.
use Rattle.std.specs.Prelude.{◌≡◌, ℕ, false, List, Option, None, Some, Result, Ok, Err}
use Rattle.std.specs.Str.{is_utf8}
use Rattle.json.specs.Json.{Json as Data}
use Rattle.ocpi_json.specs.Reading.{data_of}
use Rattle.ocpi_json.specs.declared.member_fault.MemberFault.{MemberFault}
use Rattle.ocpi_types.specs.declared.config.Config.{Config}
use Rattle.cdr_checks.specs.declared.request.Request.{Request}
use Rattle.plain_house.specs.Replies.{Reply}
use Rattle.plain_house.specs.declared.event.Event.{Event}
use Rattle.request_lines.specs.RequestText.{request_at}
use Rattle.house_causes.specs.Causes.{said_in}
use Rattle.house_causes.specs.RequestCause.{cause_of_request}
use Rattle.house_causes.specs.declared.request_cause.RequestCause.{RequestCause}
use Rattle.line_causes.specs.Members.{IsMember}
use Rattle.line_causes.specs.NotJson.{IsNotJson}
use Rattle.line_causes.specs.declared.line_cause.LineCause.{LineCause}
use Rattle.line_causes.specs.declared.line_cause.LineCause.TheVariants as cause

abbrev pub or_unknown : Option RequestCause → LineCause
or_unknown None = cause.Unknown
or_unknown (Some why) = cause.Request why

-- the cause of the reply to a request, under the configuration and after the events
abbrev pub request_line_cause : Config → List Event → Request → Reply → LineCause
request_line_cause config events request reply = or_unknown (cause_of_request config events request (said_in reply))

abbrev pub IsCauseAt : Config → List Event → Reply → Data → Result Request MemberFault → LineCause → Type 0
IsCauseAt config events reply node (Ok request) why = why ≡ request_line_cause config events request reply
IsCauseAt config events reply node (Err fault) why = IsMember false node fault why

abbrev pub IsCauseIn : Config → List Event → Reply → List ℕ → Option Data → LineCause → Type 0
IsCauseIn config events reply line None why = IsNotJson (is_utf8 line) line why
IsCauseIn config events reply line (Some node) why = IsCauseAt config events reply node (request_at node) why

-- the line is no JSON, or has a fault at a member, or its request is refused
unfoldable pub IsCauseOfLine : Config → List Event → Reply → List ℕ → LineCause → Type 0
IsCauseOfLine config events reply line why = IsCauseIn config events reply line (data_of line) why
