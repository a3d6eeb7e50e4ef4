-- The events that are kept of a stream.
use Rattle.std.proofs.Common.{◌≡◌, ◌⊎◌, ⊎_elim, ℕ, List, Bool, true, false, refl, sym, ap, ◌∙◌, Option, Some, None, Result, Ok, Err}
use Rattle.ocpi_types.specs.declared.config.Config.{Config}
use Rattle.ocpi_types.specs.declared.refusal.Refusal.{Refusal}
use Rattle.ocpi_types.specs.Config.{is_hub}
use Rattle.cdr_checks.specs.Admission.{admission}
use Rattle.plain_house.specs.declared.event.Event.{Event}
use Rattle.plain_house.specs.Laws.{RepliesTellEvents}
use Rattle.request_lines.specs.Script.{reply_to}
use Rattle.line_streams.specs.Asked.{asked_of}
use Rattle.line_streams.specs.Change.{ByHub, IsChanged, IsDone, StreamHouse}
use Rattle.line_streams.specs.Given.{IsGiven, IsGivenAgain, IsGivenAs, IsGivenOnce, IsReplyByHub, IsReplyTo, IsReplyToChange, done_by}
use Rattle.line_streams.specs.State.{Remembered, RememberedLines, StreamState, is_same_line}
use Rattle.line_streams.specs.Stream.{IsAnswered, IsAnsweredAs, IsDoneOnce, found_under, key_of}
use Rattle.line_streams.specs.declared.asked.Asked.{Asked}
use Rattle.line_streams.specs.declared.asked.Asked.TheVariants as asked
use Rattle.line_streams.specs.declared.asked.AskedLine.{AskedLine}
use Rattle.line_streams.specs.declared.reply.LineReply.{LineReply}
use Rattle.line_streams.specs.declared.reply.StreamReply.{StreamReply}
use Rattle.line_streams.specs.declared.reply.StreamReply.TheVariants as reply
use Rattle.line_streams.specs.declared.stream.Stream.{Stream}
use Rattle.house_reports.specs.explain_lines.Inner.StreamKept.{kept_after}
use Rattle.house_reports.proofs.explain_lines.AddedLemmas.{kept_with_command}

-- a change adds no event
unchanged : (house now : StreamHouse) (config : Config) (text : List ℕ) → IsChanged house config text now → now.events ≡ house.events
unchanged house now config text changed = ⊎_elim
    (λ configured. ap (λ (h : StreamHouse). h.events) configured.now_is)
    (⊎_elim
    (λ lowered. ap (λ (h : StreamHouse). h.events) lowered.now_is)
    (λ kept. ap (λ (h : StreamHouse). h.events) kept.now_is))
    changed

kept_by_change : (house : StreamHouse) (events kept : List Event) (config : Config) (answer : StreamReply) → IsReplyToChange house config answer
    → kept_after (Some answer) events kept ≡ kept
kept_by_change house events kept config (reply.House given) none = absurd none
kept_by_change house events kept config (reply.Configured at) legal = refl
kept_by_change house events kept config (reply.Lowered at event kind) legal = refl
kept_by_change house events kept config (reply.Otherwise at event kind) first = refl

kept_by_hub : (hub : Bool) (house now : StreamHouse) (kept : List Event) (config : Config) (text : List ℕ) (answer : StreamReply) → ByHub hub house config text now
    → IsReplyByHub hub house config answer → kept ≡ house.events → kept_after (Some answer) now.events kept ≡ now.events
kept_by_hub true house now kept config text answer by replied same =
    kept_by_change house now.events kept config answer replied ∙ same ∙ sym (unchanged house now config text by)
kept_by_hub false house now kept config text answer by replied same =
    ap (λ (a : StreamReply). kept_after (Some a) now.events kept) replied ∙ same ∙ sym (ap (λ (h : StreamHouse). h.events) by.1)

module _ (law : RepliesTellEvents) where
  kept_by_done : (house now : StreamHouse) (asks : Asked) (kept : List Event) (text : List ℕ) (answer : StreamReply) → IsDone house asks text now
      → IsReplyTo house asks answer → kept ≡ house.events → kept_after (Some answer) now.events kept ≡ now.events
  kept_by_done house now (asked.Request request) kept text answer done replied same =
      ap (λ (a : StreamReply). kept_after (Some a) now.events kept) replied
      ∙ kept_with_command law house.config house.events now.events kept (reply_to house.config house.events (admission house.config request)) (admission house.config request)
      refl (ap (λ (h : StreamHouse). h.events) done.now_is) same
  kept_by_done house now (asked.Change change) kept text answer done replied same =
      kept_by_hub (is_hub house.config change.platform) house now kept change.config text answer done replied same

  kept_again : (lines : RememberedLines) (found : Remembered) (once : Bool) (stream : Stream) (line : LineReply) (events kept : List Event) → IsGivenAgain once lines found line → kept_after (done_by stream line) events kept ≡ kept
  kept_again lines found true stream line events kept given = ap (λ (l : LineReply). kept_after (done_by stream l) events kept) given.1
  kept_again lines found false stream line events kept given = ap (λ (l : LineReply). kept_after (done_by stream l) events kept) given

  kept_once : (state now : StreamState) (asks : AskedLine) (found : Option Remembered) (kept : List Event) (text answer : List ℕ) (stream : Stream) (line : LineReply)
      → IsDoneOnce state (key_of asks) asks.asked found text answer now → IsGivenOnce state.house state.remembered asks.asked found text (done_by stream line) line
      → kept ≡ state.house.events → kept_after (done_by stream line) now.house.events kept ≡ now.house.events
  kept_once state now asks None kept text answer stream line done given same =
      ap (λ (d : Option StreamReply). kept_after d now.house.events kept) given.done_is
      ∙ kept_by_done state.house now.house asks.asked kept answer given.answer done.done given.replied same
  kept_once state now asks (Some found) kept text answer stream line done given same =
      kept_again state.remembered found (is_same_line found text) stream line now.house.events kept given ∙ same ∙ sym (ap (λ (s : StreamState). s.house.events) done.1)

  kept_as : (state now : StreamState) (m : Result AskedLine Refusal) (kept : List Event) (text answer : List ℕ) (stream : Stream) (line : LineReply)
      → IsAnsweredAs state m text answer now → IsGivenAs state m text (done_by stream line) line
      → kept ≡ state.house.events → kept_after (done_by stream line) now.house.events kept ≡ now.house.events
  kept_as state now (Err why) kept text answer stream line answered given same =
      ap (λ (l : LineReply). kept_after (done_by stream l) now.house.events kept) given ∙ same ∙ sym (ap (λ (s : StreamState). s.house.events) answered.1)
  kept_as state now (Ok asks) kept text answer stream line answered given same =
      kept_once state now asks (found_under state.remembered (key_of asks)) kept text answer stream line answered given same

  -- if all events before a line were kept, all after it are
  pub kept_all : (state now : StreamState) (kept : List Event) (text answer : List ℕ) (stream : Stream) (line : LineReply)
      → IsAnswered state text answer now → IsGiven state text (done_by stream line) line
      → kept ≡ state.house.events → kept_after (done_by stream line) now.house.events kept ≡ now.house.events
  kept_all state now kept text answer stream line answered given same = kept_as state now (asked_of text) kept text answer stream line answered given same
