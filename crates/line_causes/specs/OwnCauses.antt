-- Why a line is refused before a house is asked: the line and the configuration alone decide it.
use Rattle.std.specs.Prelude.{◌≡◌, ℕ, true, List, Option, Some, None, Result, Ok, Err}
use Rattle.std.specs.Str.{is_utf8}
use Rattle.json.specs.Json.{Json as Data}
use Rattle.ocpi_json.specs.Reading.{data_of}
use Rattle.ocpi_json.specs.declared.member_fault.MemberFault.{MemberFault}
use Rattle.ocpi_types.specs.declared.config.Config.{Config}
use Rattle.cdr_checks.specs.Admission.{judged}
use Rattle.cdr_checks.specs.Asking.{is_a_hub}
use Rattle.cdr_checks.specs.declared.cause.Cause.{Cause}
use Rattle.line_streams.specs.Asked.{line_at}
use Rattle.line_streams.specs.declared.asked.Asked.{Asked}
use Rattle.line_streams.specs.declared.asked.Asked.TheVariants as asked
use Rattle.line_streams.specs.declared.asked.AskedLine.{AskedLine}
use Rattle.house_causes.specs.declared.request_cause.RequestCause.TheVariants.{NotAdmitted}
use Rattle.line_causes.specs.Members.{IsMember}
use Rattle.line_causes.specs.NotJson.{IsNotJson}
use Rattle.line_causes.specs.declared.line_cause.LineCause.{LineCause}
use Rattle.line_causes.specs.declared.line_cause.LineCause.TheVariants as cause

-- the cause, if there is one
abbrev pub cause_if_not : {T : Type 0} → Result T Cause → Option LineCause
cause_if_not (Ok passed) = None
cause_if_not (Err why) = Some (cause.Request (NotAdmitted why))

-- a request is not admitted, or no hub asks for a change
abbrev pub own_cause : Config → Asked → Option LineCause
own_cause config (asked.Request request) = cause_if_not (judged config request)
own_cause config (asked.Change change) = cause_if_not (is_a_hub config change.platform)

abbrev pub IsOwnCauseAt : Config → Data → Result AskedLine MemberFault → Option LineCause → Type 0
IsOwnCauseAt config node (Ok asks) why = why ≡ own_cause config asks.asked
IsOwnCauseAt config node (Err fault) why = (cause : LineCause) × (why ≡ Some cause) × IsMember true node fault cause

abbrev pub IsOwnCauseIn : Config → List ℕ → Option Data → Option LineCause → Type 0
IsOwnCauseIn config line None why = (cause : LineCause) × (why ≡ Some cause) × IsNotJson (is_utf8 line) line cause
IsOwnCauseIn config line (Some node) why = IsOwnCauseAt config node (line_at node) why

-- the line is no JSON, or has a fault at a member, or is not admitted under the configuration; none if a house is asked
unfoldable pub IsOwnCause : Config → List ℕ → Option LineCause → Type 0
IsOwnCause config line why = IsOwnCauseIn config line (data_of line) why
