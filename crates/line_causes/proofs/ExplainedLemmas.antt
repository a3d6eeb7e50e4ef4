-- The cause of a stream's reply to a line.
use Rattle.std.proofs.Common.{◌≡◌, ℕ, List, [], ◌∷◌, Bool, true, false, refl, sym, ap, subst, ◌∙◌, Option, Some, None, Result, Ok, Err, true≢false}
use Rattle.std.proofs.lemmas.List.{append-nil}
use Rattle.std.specs.Prelude.{nat_le}
use Rattle.json.specs.Json.{Json as Data}
use Rattle.ocpi_json.specs.Reading.{data_of}
use Rattle.ocpi_json.specs.declared.member_fault.MemberFault.{MemberFault}
use Rattle.ocpi_types.specs.Config.{is_hub}
use Rattle.ocpi_types.specs.Refusal.{refusal_number}
use Rattle.ocpi_types.specs.declared.config.Config.{Config}
use Rattle.ocpi_types.specs.declared.refusal.Refusal.{Refusal}
use Rattle.cdr_checks.specs.Admission.{admission, judged}
use Rattle.cdr_checks.specs.Cause.{refusal_by, with_refusal}
use Rattle.cdr_checks.specs.FirstRefusal.{ensure}
use Rattle.cdr_checks.specs.declared.cause.Cause.{Cause}
use Rattle.cdr_checks.specs.declared.cause.Reason.{Reason}
use Rattle.cdr_checks.specs.declared.cause.Reason.TheVariants as reason
use Rattle.cdr_checks.specs.declared.request.Command.{Command}
use Rattle.plain_house.specs.declared.event.Event.{Event}
use Rattle.request_lines.specs.Script.{reply_to}
use Rattle.line_streams.specs.Asked.{asked_of, line_at, line_in, or_field}
use Rattle.line_streams.specs.Change.{ByHub, IsDone, StreamHouse}
use Rattle.line_streams.specs.Given.{IsGiven, IsGivenAgain, IsGivenAs, IsGivenOnce, IsReplyByHub, IsReplyTo, done_by}
use Rattle.line_streams.specs.State.{Remembered, StreamState, is_same_line, state_of}
use Rattle.line_streams.specs.Stream.{IsAnswered, IsAnsweredAs, IsDoneOnce, found_under, key_of}
use Rattle.line_streams.specs.declared.asked.Asked.{Asked}
use Rattle.line_streams.specs.declared.asked.Asked.TheVariants as asked
use Rattle.line_streams.specs.declared.asked.AskedLine.{AskedLine}
use Rattle.line_streams.specs.declared.reply.LineReply.{LineReply}
use Rattle.line_streams.specs.declared.reply.LineReply.TheVariants as given
use Rattle.line_streams.specs.declared.reply.StreamReply.{StreamReply}
use Rattle.line_streams.specs.declared.reply.StreamReply.TheVariants as reply
use Rattle.line_streams.specs.declared.stream.Stream.{Stream}
use Rattle.line_causes.specs.AnswersWithCauses.{AreAnsweredWithCauses, IsExplained, IsExplainedAs, IsExplainedOnce, is_by_line, with_cause}
use Rattle.line_causes.specs.Inner.Explaining.{is_own}
use Rattle.line_causes.specs.OwnCauses.{IsOwnCause, IsOwnCauseAt, IsOwnCauseIn, cause_if_not, own_cause}
use Rattle.line_causes.specs.declared.line_cause.LineCause.{LineCause}

-- ---- numbers

-- a request that is not admitted has one of the refusals 1 to 12
pub first_twelve : (reason : Reason) → nat_le (refusal_number (refusal_by reason)) 12 ≡ true
first_twelve (reason.NoOperator party) = refl
first_twelve (reason.NoProvider party) = refl
first_twelve (reason.NoParty party) = refl
first_twelve (reason.UnknownPlatform platform) = refl
first_twelve (reason.NoHub platform) = refl
first_twelve (reason.ActsNotFor platform party) = refl
first_twelve (reason.UnknownCurrency currency) = refl
first_twelve (reason.OtherCurrency found cdr) = refl
first_twelve (reason.BeforePreceding found preceding) = refl
first_twelve (reason.TariffNotGiven id) = refl
first_twelve reason.NotSupported = refl
first_twelve (reason.Reserved volume) = refl
first_twelve (reason.OtherEnergy found sum) = refl
first_twelve (reason.AmountTooLarge most) = refl
first_twelve (reason.FarFromRated declared rated) = refl

-- ---- what a house is asked has no cause of its own

none_judged : (config : Config) (events : List Event) (verdict : Result Command Cause)
    → is_by_line (reply.House (reply_to config events (with_refusal verdict))) ≡ false → None ≡ cause_if_not verdict
none_judged config events (Ok command) other = refl
none_judged config events (Err why) other = absurd (true≢false (sym (first_twelve why.reason) ∙ other))

none_by_hub : (hub : Bool) (why : Cause) (house : StreamHouse) (config : Config) (answer : StreamReply) → IsReplyByHub hub house config answer
    → is_by_line answer ≡ false → None ≡ cause_if_not (ensure hub why)
none_by_hub true why house config answer replied other = refl
none_by_hub false why house config answer replied other = absurd (true≢false (sym (ap is_by_line replied) ∙ other))

none_asked : (house : StreamHouse) (asks : Asked) (answer : StreamReply) → IsReplyTo house asks answer → is_by_line answer ≡ false
    → None ≡ own_cause house.config asks
unfolding admission
none_asked house (asked.Request request) answer replied other =
    none_judged house.config house.events (judged house.config request) (sym (ap is_by_line replied) ∙ other)
none_asked house (asked.Change change) answer replied other =
    none_by_hub (is_hub house.config change.platform) _ house change.config answer replied other

-- ---- a refusal by the line leaves the configuration in force

same_by_hub : (hub : Bool) (house now : StreamHouse) (config : Config) (text : List ℕ) (answer : StreamReply) → ByHub hub house config text now
    → IsReplyByHub hub house config answer → is_by_line answer ≡ true → now.config ≡ house.config
same_by_hub true house now config text (reply.House given) by none own = absurd none
same_by_hub true house now config text (reply.Configured at) by replied own = absurd (true≢false (sym own))
same_by_hub true house now config text (reply.Lowered at event kind) by replied own = absurd (true≢false (sym own))
same_by_hub true house now config text (reply.Otherwise at event kind) by replied own = absurd (true≢false (sym own))
same_by_hub false house now config text answer by replied own = ap (λ (h : StreamHouse). h.config) by.1

same_config : (house now : StreamHouse) (asks : Asked) (text : List ℕ) (answer : StreamReply) → IsDone house asks text now
    → IsReplyTo house asks answer → is_by_line answer ≡ true → now.config ≡ house.config
same_config house now (asked.Request request) text answer done replied own = ap (λ (h : StreamHouse). h.config) done.now_is
same_config house now (asked.Change change) text answer done replied own =
    same_by_hub (is_hub house.config change.platform) house now change.config text answer done replied own

module _ (state : StreamState) (stream : Stream) (said : LineReply) (line : List ℕ) where
  abbrev now : StreamState
  now = state_of stream

  abbrev done : Option StreamReply
  done = done_by stream said

  -- ---- the line and the configuration refuse nothing

  not_own : (other : LineReply) → said ≡ other → is_own (done_by stream other) ≡ true → is_own done ≡ false → ⊥
  not_own other is own none = true≢false (sym own ∙ sym (ap (λ (r : LineReply). is_own (done_by stream r)) is) ∙ none)

  none_once : (asks : AskedLine) (found : Option Remembered) → IsGivenOnce state.house state.remembered asks.asked found line done said → is_own done ≡ false
      → ((config : Config) → None ≡ own_cause config asks.asked → IsOwnCause config line None) → IsExplainedOnce state.house.config found line None
  none_once asks None told none own =
      let by : is_by_line told.answer ≡ false = sym (ap is_own told.done_is) ∙ none in
      own state.house.config (none_asked state.house asks.asked told.answer told.replied by)
  none_once asks (Some found) told none own = refl

  none_at : (node : Data) (read : Result AskedLine MemberFault) → IsGivenAs state (or_field read) line done said → is_own done ≡ false
      → ((config : Config) → IsOwnCauseAt config node read None → IsOwnCause config line None) → IsExplainedAs state (or_field read) line None
  none_at node (Err fault) told none own = absurd (not_own _ told refl none)
  none_at node (Ok asks) told none own = none_once asks (found_under state.remembered (key_of asks)) told none own

  none_in : (value : Option Data) → IsGivenAs state (line_in value) line done said → is_own done ≡ false
      → ((config : Config) → IsOwnCauseIn config line value None → IsOwnCause config line None) → IsExplainedAs state (line_in value) line None
  none_in None told none own = absurd (not_own _ told refl none)
  none_in (Some node) told none own = none_at node (line_at node) told none own

  pub not_by_line : IsGiven state line done said → is_own done ≡ false → IsExplained state line None
  unfolding IsOwnCause asked_of
  not_by_line told none = none_in (data_of line) told none (λ config is. is)

  -- ---- the line and the configuration decide

  not_none : (other : LineReply) → said ≡ other → is_own (done_by stream other) ≡ false → is_own done ≡ true → ⊥
  not_none other is none own = true≢false (sym own ∙ ap (λ (r : LineReply). is_own (done_by stream r)) is ∙ none)

  again_none : (found : Remembered) (same : Bool) → IsGivenAgain same state.remembered found said → is_own done ≡ true → ⊥
  again_none found true told own = not_none (given.Repeated told.0) told.1 refl own
  again_none found false told own = not_none given.IdUsed told refl own

  module _ (why : Option LineCause) where
    line_once : (asks : AskedLine) (found : Option Remembered) (text : List ℕ) → IsDoneOnce state (key_of asks) asks.asked found line text now
        → IsGivenOnce state.house state.remembered asks.asked found line done said → is_own done ≡ true → IsOwnCause now.house.config line why
        → IsExplainedOnce state.house.config found line why
    line_once asks None text answered told own cause =
        let by : is_by_line told.answer ≡ true = sym (ap is_own told.done_is) ∙ own in
        subst (λ (config : Config). IsOwnCause config line why) (same_config state.house now.house asks.asked text told.answer answered.done told.replied by) cause
    line_once asks (Some found) text answered told own cause = absurd (again_none found (is_same_line found line) told own)

    line_as : (m : Result AskedLine Refusal) (text : List ℕ) → IsAnsweredAs state m line text now → IsGivenAs state m line done said → is_own done ≡ true
        → IsOwnCause now.house.config line why → IsExplainedAs state m line why
    line_as (Err refusal) text answered told own cause = subst (λ (s : StreamState). IsOwnCause s.house.config line why) answered.1 cause
    line_as (Ok asks) text answered told own cause = line_once asks (found_under state.remembered (key_of asks)) text answered told own cause

    pub by_line : (text : List ℕ) → IsAnswered state line text now → IsGiven state line done said → is_own done ≡ true
        → IsOwnCause now.house.config line why → IsExplained state line why
    by_line text answered told own cause = line_as (asked_of line) text answered told own cause

-- ---- one line

pub answered_with : (state now : StreamState) (line text answer : List ℕ) (cause : Option LineCause) → IsAnswered state line answer now → IsExplained state line cause
    → text ≡ with_cause answer cause → AreAnsweredWithCauses state (line ∷ []) text now
answered_with state now line text answer cause answered explained is = record {
  one = text;
  others = [];
  middle = now;
  text_is = sym (append-nil text);
  first = record { answer = answer; cause = cause; answered = answered; explained = explained; text_is = is };
  rest = (refl, refl);
}
