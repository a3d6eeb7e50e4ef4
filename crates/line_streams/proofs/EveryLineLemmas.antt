-- Any lines are answered.
use Rattle.std.proofs.Common.{⊎_elim, inl, inr, ℕ, suc, List, [], ◌∷◌, ◌++◌, Bool, true, false, refl, ap, Option, None, Some, Result, Ok, Err, length}
use Rattle.std.specs.Prelude.{flat_map}
use Rattle.ocpi_types.specs.declared.config.Config.{Config}
use Rattle.ocpi_types.specs.declared.refusal.Refusal.{Refusal}
use Rattle.ocpi_types.specs.declared.refusal.Refusal.TheVariants as refusal
use Rattle.ocpi_types.specs.Config.{is_hub}
use Rattle.cdr_checks.specs.Admission.{admission}
use Rattle.house_statements.specs.Order.{event_name}
use Rattle.new_configuration.specs.Loosened.{loosened}
use Rattle.new_configuration.specs.TakenOver.{TakenOverOrRefused}
use Rattle.request_lines.specs.AnswerText.{answer_text}
use Rattle.request_lines.specs.Script.{list_with, reply_to}
use Rattle.line_streams.specs.Asked.{asked_of}
use Rattle.line_streams.specs.Change.{ByHub, IsChanged, IsDone, StreamHouse, configured_text, lowered_text, otherwise_text, refused_text, under}
use Rattle.line_streams.specs.Law.{StreamsAnswerEveryLine}
use Rattle.line_streams.specs.State.{Remembered, RequestKey, StreamState}
use Rattle.line_streams.specs.Stream.{IsAnsweredAs, IsDoneOnce, again_text, found_under, key_of, remembered_under}
use Rattle.line_streams.specs.declared.asked.Asked.{Asked}
use Rattle.line_streams.specs.declared.asked.Asked.TheVariants as asked
use Rattle.line_streams.specs.declared.asked.AskedLine.{AskedLine}

-- an answer, and what is after it
abbrev Given : {A : Type 0} → (List ℕ → A → Type 0) → Type 0
Given {A} Is = (text : List ℕ) × (now : A) × Is text now

module _ (outcome : TakenOverOrRefused) where
  changed : (house : StreamHouse) (config : Config) → Given (IsChanged house config)
  changed house config = ⊎_elim
      (λ legal. (configured_text (length house.events), under config house.events, inl (record { legal = legal; now_is = refl; text_is = refl })))
      (λ past. ⊎_elim
      (λ legal. (
        lowered_text (length house.events) past.0 (event_name past.1.event),
        record { base = loosened config; config = config; events = house.events },
        inr (inl (record { number = past.0; first = past.1; legal = legal; now_is = refl; text_is = refl })),
      ))
      (λ forbids. (
        otherwise_text (length house.events) forbids.0 (event_name forbids.1.event),
        house,
        inr (inr (record { number = forbids.0; first = forbids.1; now_is = refl; text_is = refl })),
      ))
      (outcome (loosened config) house.events))
      (outcome config house.events)

  changed_by : (hub : Bool) (house : StreamHouse) (config : Config) → Given (ByHub hub house config)
  changed_by true house config = changed house config
  changed_by false house config = (refused_text house.config refusal.NotYours, house, (refl, refl))

  done : (house : StreamHouse) (asks : Asked) → Given (IsDone house asks)
  done house (asked.Request request) = (
    answer_text house.config (reply_to house.config house.events (admission house.config request)),
    record { base = house.base; config = house.config; events = list_with house.config house.events (admission house.config request) },
    record { text_is = refl; now_is = refl },
  )
  done house (asked.Change change) = changed_by (is_hub house.config change.platform) house change.config

  done_once : (state : StreamState) (key : Option RequestKey) (asks : Asked) (found : Option Remembered) (line : List ℕ) → Given (IsDoneOnce state key asks found line)
  done_once state key asks None line =
      let it = done state.house asks in (
        it.0,
        record { house = it.1; remembered = state.remembered ++ remembered_under state.house.config key asks line it.0 },
        record { done = it.2; remembered_is = refl },
      )
  done_once state key asks (Some found) line = (again_text found line, state, (refl, refl))

  one_line : (state : StreamState) (m : Result AskedLine Refusal) (line : List ℕ) → Given (IsAnsweredAs state m line)
  one_line state (Err why) line = (refused_text state.house.config why, state, (refl, refl))
  one_line state (Ok asks) line = done_once state (key_of asks) asks.asked (found_under state.remembered (key_of asks)) line

  pub every_line : StreamsAnswerEveryLine
  every_line state [] = ([], state, refl, (refl, refl))
  every_line state (line ∷ lines) =
      let it = one_line state (asked_of line) line in
      let later = every_line it.1 lines in (
        it.0 ∷ later.0,
        later.1,
        ap (λ (n : ℕ). suc n) later.2,
        record { one = it.0; others = flat_map (λ answer. answer) later.0; middle = it.1; text_is = refl; first = it.2; rest = later.3 },
      )
