-- The cause of a request that is admitted is that of its command.
use Rattle.std.proofs.Common.{◌≡◌, ◌∙◌, ap, List, Option, Some, Result, Ok, option_map}
use Rattle.ocpi_types.specs.declared.config.Config.{Config}
use Rattle.ocpi_types.specs.declared.refusal.Refusal.{Refusal}
use Rattle.cdr_checks.specs.declared.cause.Cause.{Cause}
use Rattle.cdr_checks.specs.declared.request.Command.{Command}
use Rattle.cdr_checks.specs.declared.request.Request.{Request}
use Rattle.cdr_checks.specs.Admission.{judged}
use Rattle.cdr_checks.specs.HandedBack.{handed_back}
use Rattle.cdr_checks.proofs.AdmissionLemmas.{not_handed_back}
use Rattle.plain_house.specs.declared.answer.Answer.{Answer}
use Rattle.plain_house.specs.declared.event.Event.{Event}
use Rattle.house_causes.specs.Causes.{cause_of}
use Rattle.house_causes.specs.RequestCause.{cause_if_judged, cause_of_request}
use Rattle.house_causes.specs.declared.house_cause.HouseCause.{HouseCause}
use Rattle.house_causes.specs.declared.request_cause.RequestCause.TheVariants.{ByHouse}

pub by_house : (config : Config) (events : List Event) (request : Request) (command : Command) (reply : Result Answer Refusal) (cause : HouseCause)
    → Ok command ≡ handed_back request (judged config request) → Some cause ≡ cause_of config events command reply
    → Some (ByHouse cause) ≡ cause_of_request config events request reply
by_house config events request command reply cause admitted is =
    ap (option_map (λ (its : HouseCause). ByHouse its)) is
    ∙ ap (λ (m : Result Command Cause). cause_if_judged config events m reply) (not_handed_back request (judged config request) command admitted)
