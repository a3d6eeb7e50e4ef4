-- Why a stream refuses a line, by its reply to what the line asks for.
use Rattle.std.specs.Prelude.{◌≡◌, ℕ, true, List, Option, None, Some, Result, Ok, Err}
use Rattle.std.specs.Str.{is_utf8}
use Rattle.json.specs.Json.{Json as Data}
use Rattle.ocpi_json.specs.Folded.{is_printable}
use Rattle.ocpi_json.specs.Reading.{data_of}
use Rattle.ocpi_json.specs.declared.member_fault.MemberFault.{MemberFault}
use Rattle.ocpi_types.specs.declared.config.Config.{Config}
use Rattle.cdr_checks.specs.Asking.{is_a_hub}
use Rattle.cdr_checks.specs.declared.cause.Cause.{Cause}
use Rattle.plain_house.specs.declared.event.Event.{Event}
use Rattle.line_streams.specs.Asked.{line_at}
use Rattle.line_streams.specs.declared.asked.Asked.{Asked}
use Rattle.line_streams.specs.declared.asked.Asked.TheVariants as asked
use Rattle.line_streams.specs.declared.asked.AskedLine.{AskedLine}
use Rattle.line_streams.specs.declared.reply.StreamReply.{StreamReply}
use Rattle.line_streams.specs.declared.reply.StreamReply.TheVariants as reply
use Rattle.house_causes.specs.declared.request_cause.RequestCause.TheVariants.{NotAdmitted}
use Rattle.line_causes.specs.LineCauses.{request_line_cause}
use Rattle.line_causes.specs.Members.{IsMember}
use Rattle.line_causes.specs.NotJson.{IsNotJson}
use Rattle.line_causes.specs.ShortText.{short_text}
use Rattle.line_causes.specs.declared.line_cause.LineCause.{LineCause}
use Rattle.line_causes.specs.declared.line_cause.LineCause.TheVariants as cause

-- a change that no hub asks for
abbrev pub by_hub : Result Unit Cause → LineCause
by_hub (Ok hub) = cause.Unknown
by_hub (Err why) = cause.Request (NotAdmitted why)

-- the cause of the reply to a request or a change
abbrev pub done_cause : Config → List Event → Asked → StreamReply → LineCause
done_cause config events (asked.Request request) (reply.House given) = request_line_cause config events request given
done_cause config events (asked.Request request) (reply.Configured at) = cause.Unknown
done_cause config events (asked.Request request) (reply.Lowered at event kind) = cause.Unknown
done_cause config events (asked.Request request) (reply.Otherwise at event kind) = cause.Unknown
done_cause config events (asked.Change change) (reply.House given) = by_hub (is_a_hub config change.platform)
done_cause config events (asked.Change change) (reply.Configured at) = cause.Unknown
done_cause config events (asked.Change change) (reply.Lowered at event kind) = cause.Unknown
done_cause config events (asked.Change change) (reply.Otherwise at event kind) =
    cause.ComesOutOtherwise event (short_text kind.now)

-- the request id, as it is if it is printable
abbrev pub IsUsedId : Option (List ℕ) → LineCause → Type 0
IsUsedId None why = why ≡ cause.Unknown
IsUsedId (Some id) why = (text : List ℕ) × (why ≡ cause.IdOfAnotherLine text) × (is_printable id ≡ true → text ≡ id)

-- by the reply; without one nothing was done, since the request id was given to another line
abbrev pub IsCauseOfAsked : Config → List Event → AskedLine → Option StreamReply → LineCause → Type 0
IsCauseOfAsked config events asks (Some answer) why = why ≡ done_cause config events asks.asked answer
IsCauseOfAsked config events asks None why = IsUsedId asks.id why

abbrev pub IsStreamCauseAt : Config → List Event → Option StreamReply → Data → Result AskedLine MemberFault → LineCause → Type 0
IsStreamCauseAt config events answer node (Ok asks) why = IsCauseOfAsked config events asks answer why
IsStreamCauseAt config events answer node (Err fault) why = IsMember true node fault why

abbrev pub IsStreamCauseIn : Config → List Event → Option StreamReply → List ℕ → Option Data → LineCause → Type 0
IsStreamCauseIn config events answer line None why = IsNotJson (is_utf8 line) line why
IsStreamCauseIn config events answer line (Some node) why = IsStreamCauseAt config events answer node (line_at node) why

-- the line is no JSON, or has a fault at a member, or what it asks for is refused
unfoldable pub IsCauseOfStreamLine : Config → List Event → Option StreamReply → List ℕ → LineCause → Type 0
IsCauseOfStreamLine config events answer line why = IsStreamCauseIn config events answer line (data_of line) why
