-- Answers with causes, and the same without.
use Rattle.std.proofs.Common.{◌≡◌, inl, inr, ℕ, suc, ◌-◌, List, [], ◌∷◌, ◌++◌, length, take, flat_map, Bool, true, false, refl, sym, ap, subst, ◌∙◌, append_assoc, length-append, arith, Option, Some, None, Result, Ok, Err}
use Rattle.std.proofs.Math.Seq.{take-append_seam}
use Rattle.std.specs.Prelude.{codes, is_some, nat_le}
use Rattle.std.specs.List.{AllByRecursion}
use Rattle.json.specs.Json.{Json as Data}
use Rattle.json.specs.Print.{ends, print_from, separator, token_text}
use Rattle.json.specs.Token.{Token, begin_object, end_object}
use Rattle.ocpi_json.specs.Reading.{data_of}
use Rattle.ocpi_json.specs.declared.member_fault.MemberFault.{MemberFault}
use Rattle.ocpi_types.specs.Config.{is_hub}
use Rattle.ocpi_types.specs.Refusal.{refusal_number}
use Rattle.ocpi_types.specs.declared.config.Config.{Config}
use Rattle.ocpi_types.specs.declared.refusal.Refusal.{Refusal}
use Rattle.ocpi_types.specs.declared.refusal.Refusal.TheVariants as refusal
use Rattle.cdr_checks.specs.Admission.{admission, judged}
use Rattle.cdr_checks.specs.Cause.{refusal_of, with_refusal}
use Rattle.cdr_checks.specs.FirstRefusal.{ensure}
use Rattle.cdr_checks.specs.declared.cause.Cause.{Cause}
use Rattle.cdr_checks.specs.declared.request.Command.{Command}
use Rattle.plain_house.specs.Replies.{Reply}
use Rattle.plain_house.specs.declared.event.Event.{Event}
use Rattle.request_lines.specs.AnswerText.{answer_text, reply_values}
use Rattle.request_lines.specs.Script.{reply_to}
use Rattle.line_streams.specs.Asked.{asked_of, line_at, line_in, or_field}
use Rattle.line_streams.specs.Change.{ByHub, IsDone, StreamHouse}
use Rattle.line_streams.specs.State.{Remembered, StreamState, empty_under}
use Rattle.line_streams.specs.Stream.{AreAnswered, IsAnsweredAs, IsDoneOnce, found_under, key_of}
use Rattle.line_streams.specs.declared.asked.Asked.{Asked}
use Rattle.line_streams.specs.declared.asked.Asked.TheVariants as asked
use Rattle.line_streams.specs.declared.asked.AskedLine.{AskedLine}
use Rattle.line_causes.specs.AnswersWithCauses.{AreAnsweredWithCauses, IsExplainedAs, IsExplainedOnce, cause_member, with_cause}
use Rattle.line_causes.specs.CauseLaws.{AnswersAreTheSameButForCauses, AreSameButForACause, BothAnswers, IsFirstTwelve}
use Rattle.line_causes.specs.OwnCauses.{IsOwnCause, IsOwnCauseAt, IsOwnCauseIn, cause_if_not, own_cause}
use Rattle.line_causes.specs.declared.line_cause.LineCause.{LineCause}
use Rattle.line_causes.proofs.ExplainedLemmas.{first_twelve}

-- ---- what ends an answer

printed_end : (after : Bool) (tokens : List Token) → print_from after (tokens ++ end_object ∷ []) ≡ print_from after tokens ++ 125 ∷ []
unfolding print_from
printed_end true [] = refl
printed_end false [] = refl
printed_end after (token ∷ tokens) =
    let rest : List ℕ = print_from (ends token) tokens in
    ap (λ (l : List ℕ). separator after token ++ (token_text token ++ l)) (printed_end (ends token) tokens)
    ∙ ap (λ (l : List ℕ). separator after token ++ l) (sym (append_assoc (token_text token) rest (125 ∷ [])))
    ∙ sym (append_assoc (separator after token) (token_text token ++ rest) (125 ∷ []))

pub answer_ends : (config : Config) (reply : Reply) → (front : List ℕ) × (answer_text config reply ≡ front ++ codes "}\n")
unfolding answer_text
answer_ends config reply =
    let tokens : List Token = begin_object ∷ reply_values config reply in
    let front : List ℕ = print_from false tokens in (
      front,
      ap (λ (l : List ℕ). l ++ 10 ∷ []) (printed_end false tokens) ∙ append_assoc front (125 ∷ []) (10 ∷ []),
    )

with_end : (front answer : List ℕ) (why : LineCause) → answer ≡ front ++ codes "}\n" → with_cause answer (Some why) ≡ front ++ cause_member why
with_end front answer why is =
    let two : List ℕ = codes "}\n" in
    let size : length (front ++ two) - 2 ≡ length front = omega (arith, length-append front two) in
    ap (λ (l : List ℕ). take (length l - 2) l ++ cause_member why) is
    ∙ ap (λ (n : ℕ). take n (front ++ two) ++ cause_member why) size
    ∙ ap (λ (l : List ℕ). l ++ cause_member why) (take-append_seam front two)

-- ---- what is read of a line, and its own cause

-- a line that asks for nothing has a cause and one of the refusals 1 and 2; another has the cause of what it asks for
abbrev pub ReadsAs : List ℕ → Result AskedLine Refusal → Type 0
ReadsAs line (Err refusal) =
    (nat_le (refusal_number refusal) 12 ≡ true) × ((config : Config) (why : Option LineCause) → IsOwnCause config line why → is_some why ≡ true)
ReadsAs line (Ok asks) = (config : Config) (why : Option LineCause) → IsOwnCause config line why → why ≡ own_cause config asks.asked

reads_at : (line : List ℕ) (node : Data) (read : Result AskedLine MemberFault)
    → ((config : Config) (why : Option LineCause) → IsOwnCause config line why → IsOwnCauseAt config node read why) → ReadsAs line (or_field read)
reads_at line node (Err fault) own = (refl, λ config why is. ap is_some (own config why is).1)
reads_at line node (Ok asks) own = own

reads_in : (line : List ℕ) (value : Option Data)
    → ((config : Config) (why : Option LineCause) → IsOwnCause config line why → IsOwnCauseIn config line value why) → ReadsAs line (line_in value)
reads_in line None own = (refl, λ config why is. ap is_some (own config why is).1)
reads_in line (Some node) own = reads_at line node (line_at node) own

pub reads_as : (line : List ℕ) → ReadsAs line (asked_of line)
unfolding asked_of IsOwnCause
reads_as line = reads_in line (data_of line) (λ config why is. is)

-- ---- one answer

judged_first : (config : Config) (events : List Event) (verdict : Result Command Cause) (answer : List ℕ) (why : LineCause)
    → answer ≡ answer_text config (reply_to config events (with_refusal verdict)) → Some why ≡ cause_if_not verdict → IsFirstTwelve answer
judged_first config events (Ok command) answer why is own = absurd (cc)
judged_first config events (Err cause) answer why is own = record {
  config = config;
  refused = record { at = None; refusal = refusal_of cause };
  within = first_twelve cause.reason;
  answer_is = is;
}

hub_first : (hub : Bool) (not_hub : Cause) (house now : StreamHouse) (config : Config) (answer : List ℕ) (why : LineCause) → ByHub hub house config answer now
    → Some why ≡ cause_if_not (ensure hub not_hub) → IsFirstTwelve answer
hub_first true not_hub house now config answer why by own = absurd (cc)
hub_first false not_hub house now config answer why by own = record {
  config = house.config;
  refused = record { at = None; refusal = refusal.NotYours };
  within = refl;
  answer_is = by.0;
}

asked_first : (house now : StreamHouse) (asks : Asked) (answer : List ℕ) (why : LineCause) → IsDone house asks answer now
    → Some why ≡ own_cause house.config asks → IsFirstTwelve answer
unfolding admission
asked_first house now (asked.Request request) answer why done own =
    judged_first house.config house.events (judged house.config request) answer why done.text_is own
asked_first house now (asked.Change change) answer why done own =
    hub_first (is_hub house.config change.platform) _ house now change.config answer why done own

-- ---- one line

module _ (state now : StreamState) (line answer : List ℕ) where
  first_once : (asks : AskedLine) (found : Option Remembered) (why : LineCause) → ReadsAs line (Ok asks)
      → IsDoneOnce state (key_of asks) asks.asked found line answer now → IsExplainedOnce state.house.config found line (Some why) → IsFirstTwelve answer
  first_once asks None why reads done own = asked_first state.house now.house asks.asked answer why done.done (reads state.house.config (Some why) own)
  first_once asks (Some found) why reads done own = absurd (cc)

  first_as : (m : Result AskedLine Refusal) (why : LineCause) → ReadsAs line m → IsAnsweredAs state m line answer now → IsExplainedAs state m line (Some why)
      → IsFirstTwelve answer
  first_as (Err refused) why reads answered own = record {
    config = state.house.config;
    refused = record { at = None; refusal = refused };
    within = reads.0;
    answer_is = answered.0;
  }
  first_as (Ok asks) why reads answered own = first_once asks (found_under state.remembered (key_of asks)) why reads answered own

-- ---- many lines

-- what a stream without causes answers to the same lines
record Both (state now : StreamState) (lines : List (List ℕ)) (text : List ℕ) : Type 0 where
  pub answers : List BothAnswers
  pub count : length answers ≡ length lines
  pub same : AllByRecursion AreSameButForACause answers
  pub text_is : text ≡ flat_map (λ (both : BothAnswers). both.explained) answers
  pub answered : AreAnswered state lines (flat_map (λ (both : BothAnswers). both.plain) answers) now

one_answer : (state now : StreamState) (line text answer : List ℕ) (cause : Option LineCause) → IsAnsweredAs state (asked_of line) line answer now
    → IsExplainedAs state (asked_of line) line cause → text ≡ with_cause answer cause → AreSameButForACause (record { explained = text; plain = answer })
one_answer state now line text answer None answered explained is = inl is
one_answer state now line text answer (Some why) answered explained is =
    let first = first_as state now line answer (asked_of line) why (reads_as line) answered explained in
    let end = answer_ends first.config (Err first.refused) in
    let plain : answer ≡ end.0 ++ codes "}\n" = first.answer_is ∙ end.1 in
    inr (record { why = why; front = end.0; first_twelve = first; plain_is = plain; explained_is = is ∙ with_end end.0 answer why plain })

both_of : (state now : StreamState) (lines : List (List ℕ)) (text : List ℕ) → AreAnsweredWithCauses state lines text now → Both state now lines text
both_of state now [] text answered = record { answers = []; count = refl; same = tt; text_is = answered.0; answered = (refl, answered.1) }
both_of state now (line ∷ lines) text turn =
    let first = turn.first in
    let later = both_of turn.middle now lines turn.others turn.rest in
    let one : BothAnswers = record { explained = turn.one; plain = first.answer } in record {
      answers = one ∷ later.answers;
      count = ap suc later.count;
      same = (one_answer state turn.middle line turn.one first.answer first.cause first.answered first.explained first.text_is, later.same);
      text_is = turn.text_is ∙ ap (λ (l : List ℕ). turn.one ++ l) later.text_is;
      answered = record {
        one = first.answer;
        others = flat_map (λ (both : BothAnswers). both.plain) later.answers;
        middle = turn.middle;
        text_is = refl;
        first = first.answered;
        rest = later.answered;
      };
    }

pub same_but_for_causes : AnswersAreTheSameButForCauses
same_but_for_causes config lines text now answered =
    let both = both_of (empty_under config) now lines text answered in
    (both.answers, both.count, both.same, both.text_is, both.answered)
