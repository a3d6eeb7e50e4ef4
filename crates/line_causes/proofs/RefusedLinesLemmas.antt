-- A request that is refused has a cause.
use Rattle.std.proofs.Common.{◌≡◌, ℕ, List, Bool, true, false, refl, sym, ap, subst, ◌∙◌, Option, Some, None, Result, Ok, Err, is_some, option_map}
use Rattle.std.specs.Str.{is_utf8}
use Rattle.json.specs.Json.{Json as Data}
use Rattle.ocpi_json.specs.Reading.{data_of}
use Rattle.ocpi_json.specs.declared.member_fault.MemberFault.{MemberFault}
use Rattle.ocpi_types.specs.declared.config.Config.{Config}
use Rattle.ocpi_types.specs.declared.refusal.Refusal.{Refusal}
use Rattle.cdr_checks.specs.Admission.{IsAdmitted, admission, judged}
use Rattle.cdr_checks.specs.Cause.{with_refusal}
use Rattle.cdr_checks.specs.declared.cause.Cause.{Cause}
use Rattle.cdr_checks.specs.declared.request.Command.{Command}
use Rattle.cdr_checks.specs.declared.request.Request.{Request}
use Rattle.plain_house.specs.Replies.{Reply, stamped}
use Rattle.plain_house.specs.declared.answer.Answer.{Answer}
use Rattle.plain_house.specs.declared.answer.Answer.TheVariants as answer
use Rattle.plain_house.specs.declared.event.Event.{Event}
use Rattle.request_lines.specs.RequestText.{or_field, request_at, request_in, request_of}
use Rattle.request_lines.specs.Script.{admitted, command_in, reply_in, reply_to}
use Rattle.house_causes.specs.Causes.{cause_of, said_in}
use Rattle.house_causes.specs.Laws.{EachRefusalHasACause, RefusingAnswersHaveCauses, said_by_house}
use Rattle.house_causes.specs.RequestCause.{cause_if_judged, cause_of_request}
use Rattle.house_causes.specs.declared.house_cause.HouseCause.{HouseCause}
use Rattle.house_causes.specs.declared.request_cause.RequestCause.{RequestCause}
use Rattle.house_causes.specs.declared.request_cause.RequestCause.TheVariants.{ByHouse}
use Rattle.line_causes.specs.LineCauses.{IsCauseAt, IsCauseIn, IsCauseOfLine, or_unknown}
use Rattle.line_causes.specs.NotJson.{IsNotJson}
use Rattle.line_causes.specs.RefusalNames.{refused_by_reply}
use Rattle.line_causes.specs.declared.line_cause.LineCause.{LineCause}
use Rattle.line_causes.specs.declared.line_cause.LineCause.TheVariants as cause

said_stamped : (at : ℕ) (reply : Result Answer Refusal) → said_in (stamped at reply) ≡ reply
said_stamped at (Ok told) = refl
said_stamped at (Err refusal) = refl

some_by_house : (found : Option HouseCause) → is_some found ≡ true → is_some (option_map (λ why. ByHouse why) found) ≡ true
some_by_house None some = absurd (cc)
some_by_house (Some why) some = refl

module _ (refusals : EachRefusalHasACause) (answers : RefusingAnswersHaveCauses) (config : Config) (events : List Event) where
  -- by what the house replies
  some_replied : (at : ℕ) (command : Command) (reply : Result Answer Refusal) → IsAdmitted config command → said_by_house config events command ≡ reply
      → is_some (refused_by_reply (stamped at reply)) ≡ true → is_some (cause_of config events command reply) ≡ true
  some_replied at command (Err refusal) may is turned = refusals config events command refusal may is
  some_replied at command (Ok answer.Stored) may is turned = absurd (cc)
  some_replied at command (Ok answer.Unchanged) may is turned = absurd (cc)
  some_replied at command (Ok (answer.Allowed reference)) may is turned = absurd (cc)
  some_replied at command (Ok answer.Blocked) may is turned = answers.blocked config events command is
  some_replied at command (Ok (answer.NoCredit over)) may is turned = answers.no_credit config events command over
  some_replied at command (Ok (answer.Released amount)) may is turned = absurd (cc)
  some_replied at command (Ok (answer.Accepted amount period)) may is turned = absurd (cc)
  some_replied at command (Ok (answer.Repeated amount period)) may is turned = absurd (cc)
  some_replied at command (Ok (answer.Closed period positions)) may is turned = absurd (cc)
  some_replied at command (Ok (answer.Settled amount)) may is turned = absurd (cc)
  some_replied at command (Ok (answer.Exposure holds debts limit)) may is turned = absurd (cc)
  some_replied at command (Ok (answer.Found amount period credited)) may is turned = absurd (cc)
  some_replied at command (Ok (answer.Statement rows)) may is turned = absurd (cc)

  -- by how the request is judged
  pub some_judged : (request : Request) (found : Result Command Cause) → judged config request ≡ found
      → is_some (refused_by_reply (reply_to config events (with_refusal found))) ≡ true
      → is_some (cause_if_judged config events found (said_in (reply_to config events (with_refusal found)))) ≡ true
  unfolding admission IsAdmitted
  some_judged request (Err why) is turned = refl
  some_judged request (Ok command) is turned =
      let told = said_by_house config events command in
      some_by_house (cause_of config events command (said_in (reply_to config events (Ok command))))
      (subst (λ (reply : Result Answer Refusal). is_some (cause_of config events command reply) ≡ true) (sym (said_stamped _ told))
      (some_replied _ command told (request, ap (λ (it : Result Command Cause). with_refusal it) is) refl turned))

  pub not_unknown : (found : Option RequestCause) → is_some found ≡ true → cause.Unknown ≡ or_unknown found → ⊥
  not_unknown None some is = absurd (cc)
  not_unknown (Some why) some is = absurd (cc)

  pub not_unknown_text : (utf8 : Bool) (line : List ℕ) → IsNotJson utf8 line cause.Unknown → ⊥
  not_unknown_text true line is = absurd (cc (is.2))
  not_unknown_text false line is = absurd (cc (is))

  -- by what is read of the line's value
  not_unknown_at : (node : Data) (read : Result Request MemberFault) → is_some (refused_by_reply (reply_to config events (admitted config (or_field read)))) ≡ true
      → IsCauseAt config events (reply_to config events (admitted config (or_field read))) node read cause.Unknown → ⊥
  unfolding admission
  not_unknown_at node (Err fault) turned is = absurd (cc (is.cause_is))
  not_unknown_at node (Ok request) turned is =
      not_unknown (cause_of_request config events request (said_in (reply_to config events (admission config request))))
      (some_judged request (judged config request) refl turned) is

  not_unknown_in : (line : List ℕ) (value : Option Data) → is_some (refused_by_reply (reply_to config events (admitted config (request_in value)))) ≡ true
      → IsCauseIn config events (reply_to config events (admitted config (request_in value))) line value cause.Unknown → ⊥
  not_unknown_in line None turned is = not_unknown_text (is_utf8 line) line is
  not_unknown_in line (Some node) turned is = not_unknown_at node (request_at node) turned is

  pub refused_lines : (line : List ℕ) → is_some (refused_by_reply (reply_in config events line)) ≡ true
      → IsCauseOfLine config events (reply_in config events line) line cause.Unknown → ⊥
  unfolding IsCauseOfLine reply_in command_in request_of
  refused_lines line turned is = not_unknown_in line (data_of line) turned is
