-- Why a request is refused: it is not admitted, or the house refuses its command.
use Rattle.std.specs.Prelude.{Option, Some, List, Result, Ok, Err, option_map}
use Rattle.ocpi_types.specs.declared.config.Config.{Config}
use Rattle.ocpi_types.specs.declared.refusal.Refusal.{Refusal}
use Rattle.cdr_checks.specs.Admission.{judged}
use Rattle.cdr_checks.specs.Cause.{refusal_of}
use Rattle.cdr_checks.specs.declared.cause.Cause.{Cause}
use Rattle.cdr_checks.specs.declared.request.Command.{Command}
use Rattle.cdr_checks.specs.declared.request.Request.{Request}
use Rattle.plain_house.specs.declared.answer.Answer.{Answer}
use Rattle.plain_house.specs.declared.event.Event.{Event}
use Rattle.house_causes.specs.Causes.{cause_of}
use Rattle.house_causes.specs.HouseCause.{refusal_by}
use Rattle.house_causes.specs.declared.request_cause.RequestCause.{RequestCause}
use Rattle.house_causes.specs.declared.request_cause.RequestCause.TheVariants.{NotAdmitted, ByHouse}

-- the refusal; none of the answers BLOCKED and NO_CREDIT
abbrev pub refusal_for : RequestCause → Option Refusal
refusal_for (NotAdmitted cause) = Some (refusal_of cause)
refusal_for (ByHouse cause) = refusal_by cause.reason

abbrev pub cause_if_judged : Config → List Event → Result Command Cause → Result Answer Refusal → Option RequestCause
cause_if_judged config events (Err cause) reply = Some (NotAdmitted cause)
cause_if_judged config events (Ok command) reply = option_map (λ cause. ByHouse cause) (cause_of config events command reply)

-- the cause of the reply to a request after these events
abbrev pub cause_of_request : Config → List Event → Request → Result Answer Refusal → Option RequestCause
cause_of_request config events request reply = cause_if_judged config events (judged config request) reply
