-- Which lines have a cause of their own, and that it is a cause of the line.
use Rattle.std.proofs.Common.{◌≡◌, ℕ, List, [], ◌∷◌, ◌++◌, Bool, true, false, refl, sym, ap, subst, ◌∙◌, Option, Some, None, Result, Ok, Err}
use Rattle.std.specs.Prelude.{is_some, nat_le}
use Rattle.json.specs.Json.{Json as Data}
use Rattle.ocpi_json.specs.Reading.{data_of}
use Rattle.ocpi_json.specs.declared.member_fault.MemberFault.{MemberFault}
use Rattle.ocpi_types.specs.Config.{is_hub}
use Rattle.ocpi_types.specs.Refusal.{refusal_number}
use Rattle.ocpi_types.specs.declared.config.Config.{Config}
use Rattle.ocpi_types.specs.declared.refusal.Refusal.{Refusal}
use Rattle.ocpi_types.specs.declared.refusal.Refusal.TheVariants as refusal
use Rattle.cdr_checks.specs.Admission.{IsAdmitted, admission, judged}
use Rattle.cdr_checks.specs.Asking.{is_a_hub}
use Rattle.cdr_checks.specs.Cause.{with_refusal}
use Rattle.cdr_checks.specs.FirstRefusal.{ensure}
use Rattle.cdr_checks.specs.declared.cause.Cause.{Cause}
use Rattle.cdr_checks.specs.declared.request.Command.{Command}
use Rattle.cdr_checks.specs.declared.request.Request.{Request}
use Rattle.plain_house.specs.Replies.{Reply, stamped}
use Rattle.plain_house.specs.declared.answer.Answer.{Answer}
use Rattle.plain_house.specs.declared.event.Event.{Event}
use Rattle.request_lines.specs.Script.{reply_to}
use Rattle.line_streams.specs.Asked.{asked_of, line_at}
use Rattle.line_streams.specs.Change.{StreamHouse}
use Rattle.line_streams.specs.Given.{IsReplyByHub, IsReplyTo}
use Rattle.line_streams.specs.Law.{StreamsAreDetermined}
use Rattle.line_streams.specs.State.{Remembered, StreamState}
use Rattle.line_streams.specs.Stream.{AreAnswered, found_under, key_of}
use Rattle.line_streams.specs.declared.asked.Asked.{Asked}
use Rattle.line_streams.specs.declared.asked.Asked.TheVariants as asked
use Rattle.line_streams.specs.declared.asked.AskedLine.{AskedLine}
use Rattle.line_streams.specs.declared.reply.StreamReply.{StreamReply}
use Rattle.line_streams.specs.declared.reply.StreamReply.TheVariants as reply
use Rattle.house_causes.specs.Causes.{cause_of, said_in}
use Rattle.house_causes.specs.Laws.{EachRefusalHasACause, said_by_house}
use Rattle.house_causes.specs.RequestCause.{cause_if_judged}
use Rattle.line_causes.specs.AnswersWithCauses.{AreAnsweredWithCauses, IsExplainedAs, IsExplainedOnce, is_by_line}
use Rattle.line_causes.specs.CauseLaws.{CausesLeadOneWay, FirstTwelveHaveCauses, OwnCausesAreCauses}
use Rattle.line_causes.specs.LineCauses.{or_unknown}
use Rattle.line_causes.specs.Members.{IsMember}
use Rattle.line_causes.specs.OwnCauses.{IsOwnCause, IsOwnCauseAt, IsOwnCauseIn, cause_if_not, own_cause}
use Rattle.line_causes.specs.Refused.{IsRefusedAs, IsRefusedOnce}
use Rattle.line_causes.specs.StreamCauses.{IsCauseOfStreamLine, IsStreamCauseAt, IsStreamCauseIn, by_hub, done_cause}
use Rattle.line_causes.specs.declared.line_cause.LineCause.{LineCause}
use Rattle.line_causes.proofs.CauseLemmas.{ReadsAs, reads_as}
use Rattle.line_causes.proofs.ExplainedLemmas.{first_twelve}

-- ---- a house gives none of the refusals 1 to 12

none_early : (config : Config) (events : List Event) (command : Command) (why : Refusal) → nat_le (refusal_number why) 12 ≡ true
    → is_some (cause_of config events command (Err why)) ≡ true → ⊥
none_early config events command refusal.Syntax few some = absurd (cc)
none_early config events command (refusal.Field called) few some = absurd (cc)
none_early config events command refusal.UnknownParty few some = absurd (cc)
none_early config events command refusal.NotYours few some = absurd (cc)
none_early config events command refusal.WrongCurrency few some = absurd (cc)
none_early config events command refusal.BadDates few some = absurd (cc)
none_early config events command refusal.TariffNotGiven few some = absurd (cc)
none_early config events command refusal.UnsupportedRestriction few some = absurd (cc)
none_early config events command refusal.Reservation few some = absurd (cc)
none_early config events command refusal.EnergyMismatch few some = absurd (cc)
none_early config events command refusal.AmountTooLarge few some = absurd (cc)
none_early config events command (refusal.CostMismatch rated) few some = absurd (cc)
none_early config events command refusal.Conflict few some = absurd (cc)
none_early config events command refusal.TariffNotRegistered few some = absurd (cc)
none_early config events command refusal.UnknownToken few some = absurd (cc)
none_early config events command refusal.UnknownHold few some = absurd (cc)
none_early config events command refusal.UnknownOriginal few some = absurd (cc)
none_early config events command refusal.CreditOfCredit few some = absurd (cc)
none_early config events command refusal.AlreadyCredited few some = absurd (cc)
none_early config events command refusal.CreditDiffers few some = absurd (cc)
none_early config events command (refusal.NotCurrent current) few some = absurd (cc)
none_early config events command refusal.PeriodOpen few some = absurd (cc)
none_early config events command refusal.AlreadySettled few some = absurd (cc)
none_early config events command refusal.UnknownCdr few some = absurd (cc)
none_early config events command (refusal.Full what) few some = absurd (cc)
none_early config events command (refusal.OverLimit exposure limit pair) few some = absurd (cc)
none_early config events command refusal.NoMemory few some = absurd (cc)
none_early config events command (refusal.TooLate original current) few some = absurd (cc)

is_false : (b : Bool) → (b ≡ true → ⊥) → b ≡ false
is_false true never = absurd (never refl)
is_false false never = refl

module _ (refusals : EachRefusalHasACause) where
  house_late : (config : Config) (events : List Event) (command : Command) (at : ℕ) (said : Result Answer Refusal) → IsAdmitted config command
      → said_by_house config events command ≡ said → is_by_line (reply.House (stamped at said)) ≡ false
  house_late config events command at (Ok answer) may is = refl
  house_late config events command at (Err why) may is =
      is_false (nat_le (refusal_number why) 12) (λ few. none_early config events command why few (refusals config events command why may is))

  by_verdict : (config : Config) (events : List Event) (request : Request) (verdict : Result Command Cause) → judged config request ≡ verdict
      → is_some (cause_if_not verdict) ≡ is_by_line (reply.House (reply_to config events (with_refusal verdict)))
  unfolding IsAdmitted admission
  by_verdict config events request (Err why) is = sym (first_twelve why.reason)
  by_verdict config events request (Ok command) is =
      sym (house_late config events command _ (said_by_house config events command) (request, ap (λ (it : Result Command Cause). with_refusal it) is) refl)

  hub_cause : (hub : Bool) (not_hub : Cause) (house : StreamHouse) (config : Config) (answer : StreamReply) → IsReplyByHub hub house config answer
      → is_some (cause_if_not (ensure hub not_hub)) ≡ is_by_line answer
  hub_cause true not_hub house config (reply.House given) none = absurd none
  hub_cause true not_hub house config (reply.Configured at) replied = refl
  hub_cause true not_hub house config (reply.Lowered at event kind) replied = refl
  hub_cause true not_hub house config (reply.Otherwise at event kind) replied = refl
  hub_cause false not_hub house config answer replied = sym (ap is_by_line replied)

  asked_cause : (house : StreamHouse) (asks : Asked) (answer : StreamReply) → IsReplyTo house asks answer → is_some (own_cause house.config asks) ≡ is_by_line answer
  unfolding admission
  asked_cause house (asked.Request request) answer replied =
      by_verdict house.config house.events request (judged house.config request) refl ∙ sym (ap is_by_line replied)
  asked_cause house (asked.Change change) answer replied =
      hub_cause (is_hub house.config change.platform) _ house change.config answer replied

  cause_once : (state : StreamState) (asks : AskedLine) (found : Option Remembered) (line name : List ℕ) (done : StreamReply) (cause : Option LineCause) → ReadsAs line (Ok asks)
      → IsRefusedOnce state.house asks.asked found line (Some done) (Some name) → IsExplainedOnce state.house.config found line cause → is_some cause ≡ is_by_line done
  cause_once state asks None line name done cause reads refused explained =
      let same : refused.answer ≡ done = (cc (refused.done_is)) in
      ap is_some (reads state.house.config cause explained)
      ∙ asked_cause state.house asks.asked refused.answer refused.replied
      ∙ ap is_by_line same
  cause_once state asks (Some found) line name done cause reads refused explained = absurd (cc (refused.0))

  cause_as : (state : StreamState) (m : Result AskedLine Refusal) (line name : List ℕ) (done : StreamReply) (cause : Option LineCause) → ReadsAs line m
      → IsRefusedAs state m line (Some done) (Some name) → IsExplainedAs state m line cause → is_some cause ≡ is_by_line done
  cause_as state (Err why) line name done cause reads refused explained =
      let same : done ≡ reply.House (Err (record { at = None; refusal = why })) = (cc (refused.0)) in
      reads.1 state.house.config cause explained ∙ sym reads.0 ∙ sym (ap is_by_line same)
  cause_as state (Ok asks) line name done cause reads refused explained =
      cause_once state asks (found_under state.remembered (key_of asks)) line name done cause reads refused explained

pub have_causes : EachRefusalHasACause → FirstTwelveHaveCauses
have_causes refusals state line name done cause refused explained =
    cause_as refusals state (asked_of line) line name done cause (reads_as line) refused explained

-- ---- a cause of its own is a cause of the line

verdict_cause : (config : Config) (events : List Event) (given : Reply) (verdict : Result Command Cause) (why : LineCause) → Some why ≡ cause_if_not verdict
    → why ≡ or_unknown (cause_if_judged config events verdict (said_in given))
verdict_cause config events given (Ok command) why own = absurd (cc)
verdict_cause config events given (Err cause) why own = (cc)

hub_is_cause : (hub : Result Unit Cause) (why : LineCause) → Some why ≡ cause_if_not hub → why ≡ by_hub hub
hub_is_cause (Ok is) why own = absurd (cc)
hub_is_cause (Err cause) why own = (cc)

asked_is_cause : (config : Config) (events : List Event) (given : Reply) (asks : Asked) (why : LineCause) → Some why ≡ own_cause config asks
    → why ≡ done_cause config events asks (reply.House given)
asked_is_cause config events given (asked.Request request) why own = verdict_cause config events given (judged config request) why own
asked_is_cause config events given (asked.Change change) why own = hub_is_cause (is_a_hub config change.platform) why own

cause_at : (config : Config) (events : List Event) (given : Reply) (node : Data) (read : Result AskedLine MemberFault) (why : LineCause)
    → IsOwnCauseAt config node read (Some why) → IsStreamCauseAt config events (Some (reply.House given)) node read why
cause_at config events given node (Ok asks) why own = asked_is_cause config events given asks.asked why own
cause_at config events given node (Err fault) why own =
    let same : own.0 ≡ why = (cc (own.1)) in
    subst (λ (cause : LineCause). IsMember true node fault cause) same own.2

cause_in : (config : Config) (events : List Event) (given : Reply) (line : List ℕ) (value : Option Data) (why : LineCause)
    → IsOwnCauseIn config line value (Some why) → IsStreamCauseIn config events (Some (reply.House given)) line value why
cause_in config events given line None why own =
    let same : own.0 ≡ why = (cc (own.1)) in
    subst (λ (cause : LineCause). IsStreamCauseIn config events (Some (reply.House given)) line None cause) same own.2
cause_in config events given line (Some node) why own = cause_at config events given node (line_at node) why own

pub own_causes_are_causes : OwnCausesAreCauses
unfolding IsOwnCause IsCauseOfStreamLine
own_causes_are_causes config events line given why own = cause_in config events given line (data_of line) why own

-- ---- lines lead to one state

-- the answers without causes
plain_of : (state now : StreamState) (lines : List (List ℕ)) (text : List ℕ) → AreAnsweredWithCauses state lines text now → (plain : List ℕ) × AreAnswered state lines plain now
plain_of state now [] text answered = ([], (refl, answered.1))
plain_of state now (line ∷ lines) text turn =
    let later = plain_of turn.middle now lines turn.others turn.rest in (
      turn.first.answer ++ later.0,
      record { one = turn.first.answer; others = later.0; middle = turn.middle; text_is = refl; first = turn.first.answered; rest = later.1 },
    )

pub one_way : StreamsAreDetermined → CausesLeadOneWay
one_way determined state lines one other now then first second =
    let a = plain_of state now lines one first in
    let b = plain_of state then lines other second in
    (determined state lines a.0 b.0 now then a.1 b.1).1
