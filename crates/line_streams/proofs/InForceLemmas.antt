-- What a line adds keeps to the configuration in force.
use Rattle.std.proofs.Common.{◌≡◌, ◌⊎◌, ⊎_elim, inl, inr, ℕ, List, [], ◌∷◌, ◌++◌, Bool, true, false, refl, ap, sym, subst, Option, None, Some, Result, Ok, Err}
use Rattle.ocpi_types.specs.declared.config.Config.{Config}
use Rattle.ocpi_types.specs.declared.refusal.Refusal.{Refusal}
use Rattle.ocpi_types.specs.Config.{is_hub}
use Rattle.cdr_checks.specs.Admission.{admission}
use Rattle.cdr_checks.specs.Law.{PostsAreChecked}
use Rattle.cdr_checks.specs.Tests.{AdmittedPassTheirTests}
use Rattle.cdr_checks.specs.declared.request.Command.{Command}
use Rattle.cdr_checks.specs.declared.request.Request.{Request}
use Rattle.plain_house.specs.declared.event.Event.{Event}
use Rattle.plain_house.specs.House.{verdict}
use Rattle.plain_house.specs.Known.{known}
use Rattle.plain_house.specs.Replies.{with_event}
use Rattle.request_lines.specs.Script.{list_with}
use Rattle.line_streams.specs.Asked.{asked_of}
use Rattle.line_streams.specs.Bounds.{KeepsTo}
use Rattle.line_streams.specs.Change.{ByHub, IsChanged, IsDone, StreamHouse}
use Rattle.line_streams.specs.Law.{AddedEventsKeepToTheirConfiguration}
use Rattle.line_streams.specs.State.{Remembered, RequestKey, StreamState}
use Rattle.line_streams.specs.Stream.{IsAnsweredAs, IsDoneOnce, found_under, key_of}
use Rattle.line_streams.specs.declared.asked.Asked.{Asked}
use Rattle.line_streams.specs.declared.asked.Asked.TheVariants as asked
use Rattle.line_streams.specs.declared.asked.AskedLine.{AskedLine}
use Rattle.line_streams.proofs.BoundsLemmas.{given_keeps_to}
use Rattle.line_streams.proofs.StreamLemmas.{is_admitted}

-- no event is added, or one that keeps to the configuration in force before
abbrev Adds : StreamHouse → List Event → Type 0
Adds house events = (events ≡ house.events) ⊎ ((event : Event) × (events ≡ house.events ++ event ∷ []) × KeepsTo house.config house.events event)

module _ (checks : PostsAreChecked) (passed : AdmittedPassTheirTests) where
  adds_with : (house : StreamHouse) (request : Request) (m : Result Command Refusal) → admission house.config request ≡ m → Adds house (list_with house.config house.events m)
  adds_with house request (Err why) admits = inl refl
  adds_with house request (Ok told) admits = by (verdict house.config (known house.events) told).event refl
    where
      by : (added : Option Event) → (verdict house.config (known house.events) told).event ≡ added → Adds house (with_event house.events added)
      by None is = inl refl
      by (Some event) is = inr (event, refl, given_keeps_to checks passed house.config house.events event (told, is_admitted house.config request told admits, is))

  same_changed : (house now : StreamHouse) (config : Config) (text : List ℕ) → IsChanged house config text now → now.events ≡ house.events
  same_changed house now config text changed = ⊎_elim
      (λ configured. ap (λ (h : StreamHouse). h.events) configured.now_is)
      (⊎_elim (λ lowered. ap (λ (h : StreamHouse). h.events) lowered.now_is) (λ kept. ap (λ (h : StreamHouse). h.events) kept.now_is))
      changed

  same_by : (hub : Bool) (house now : StreamHouse) (config : Config) (text : List ℕ) → ByHub hub house config text now → now.events ≡ house.events
  same_by true house now config text by = same_changed house now config text by
  same_by false house now config text by = ap (λ (h : StreamHouse). h.events) by.1

  adds_done : (house now : StreamHouse) (asks : Asked) (text : List ℕ) → IsDone house asks text now → Adds house now.events
  adds_done house now (asked.Request request) text done =
      subst (λ (h : StreamHouse). Adds house h.events) (sym done.now_is) (adds_with house request (admission house.config request) refl)
  adds_done house now (asked.Change change) text done = inl (same_by (is_hub house.config change.platform) house now change.config text done)

  adds_once : (state now : StreamState) (key : Option RequestKey) (asks : Asked) (found : Option Remembered) (line text : List ℕ)
      → IsDoneOnce state key asks found line text now → Adds state.house now.house.events
  adds_once state now key asks None line text done = adds_done state.house now.house asks text done.done
  adds_once state now key asks (Some found) line text done = inl (ap (λ (s : StreamState). s.house.events) done.1)

  adds_one : (state now : StreamState) (m : Result AskedLine Refusal) (line text : List ℕ) → IsAnsweredAs state m line text now → Adds state.house now.house.events
  adds_one state now (Err why) line text answered = inl (ap (λ (s : StreamState). s.house.events) answered.1)
  adds_one state now (Ok asks) line text answered = adds_once state now (key_of asks) asks.asked (found_under state.remembered (key_of asks)) line text answered

  pub keep_to_theirs : AddedEventsKeepToTheirConfiguration
  keep_to_theirs config lines line texts text state now before answered = adds_one state now (asked_of line) line text answered
