-- A refused line of a stream has a cause.
use Rattle.std.proofs.Common.{◌≡◌, ℕ, List, Bool, true, false, refl, sym, ap, subst, ◌∙◌, Option, Some, None, Result, Ok, Err, is_some}
use Rattle.std.specs.Str.{is_utf8}
use Rattle.json.specs.Json.{Json as Data}
use Rattle.ocpi_json.specs.Reading.{data_of}
use Rattle.ocpi_json.specs.declared.member_fault.MemberFault.{MemberFault}
use Rattle.ocpi_types.specs.Config.{is_hub}
use Rattle.ocpi_types.specs.declared.config.Config.{Config}
use Rattle.cdr_checks.specs.Admission.{admission, judged}
use Rattle.cdr_checks.specs.FirstRefusal.{ensure}
use Rattle.cdr_checks.specs.declared.cause.Cause.{Cause}
use Rattle.cdr_checks.specs.declared.request.Request.{Request}
use Rattle.plain_house.specs.declared.event.Event.{Event}
use Rattle.request_lines.specs.Script.{reply_to}
use Rattle.line_streams.specs.Asked.{asked_of, line_at, line_in, or_field}
use Rattle.line_streams.specs.Given.{IsReplyByHub, IsReplyTo}
use Rattle.line_streams.specs.State.{Remembered, StreamState}
use Rattle.line_streams.specs.Stream.{found_under, key_of}
use Rattle.line_streams.specs.declared.asked.Asked.{Asked}
use Rattle.line_streams.specs.declared.asked.Asked.TheVariants as asked
use Rattle.line_streams.specs.declared.asked.AskedLine.{AskedLine}
use Rattle.line_streams.specs.declared.asked.Change.{Change}
use Rattle.line_streams.specs.declared.reply.StreamReply.{StreamReply}
use Rattle.line_streams.specs.declared.reply.StreamReply.TheVariants as reply
use Rattle.house_causes.specs.Causes.{said_in}
use Rattle.house_causes.specs.Laws.{EachRefusalHasACause, RefusingAnswersHaveCauses}
use Rattle.house_causes.specs.RequestCause.{cause_of_request}
use Rattle.line_causes.specs.Laws.{RefusedStreamLinesHaveCauses}
use Rattle.line_causes.specs.RefusalNames.{refused_by, refused_by_reply}
use Rattle.line_causes.specs.Refused.{IsRefused, IsRefusedAs, IsRefusedBy, IsRefusedOnce}
use Rattle.line_causes.specs.StreamCauses.{IsCauseOfAsked, IsCauseOfStreamLine, IsStreamCauseAt, IsStreamCauseIn, IsUsedId, by_hub, done_cause}
use Rattle.line_causes.specs.declared.line_cause.LineCause.TheVariants as cause
use Rattle.line_causes.proofs.RefusedLinesLemmas.{not_unknown, not_unknown_text, some_judged}

no_hub : (hub : Bool) (why : Cause) → hub ≡ false → cause.Unknown ≡ by_hub (ensure hub why) → ⊥
no_hub true why other is = absurd (cc)
no_hub false why other is = absurd (cc)

module _ (refusals : EachRefusalHasACause) (answers : RefusingAnswersHaveCauses) (state : StreamState) (name : List ℕ) where
  abbrev config : Config
  config = state.house.config

  abbrev events : List Event
  events = state.house.events

  -- ---- a line that is done

  by_request : (request : Request) (answer : StreamReply) → answer ≡ reply.House (reply_to config events (admission config request))
      → Some name ≡ refused_by answer → cause.Unknown ≡ done_cause config events (asked.Request request) answer → ⊥
  unfolding admission
  by_request request answer replied named is =
      let refused : is_some (refused_by_reply (reply_to config events (admission config request))) ≡ true = ap is_some (sym (named ∙ ap refused_by replied)) in
      not_unknown refusals answers config events (cause_of_request config events request (said_in (reply_to config events (admission config request))))
      (some_judged refusals answers config events request (judged config request) refl refused)
      (is ∙ ap (λ (given : StreamReply). done_cause config events (asked.Request request) given) replied)

  by_change : (hub : Bool) (change : Change) (answer : StreamReply) → is_hub config change.platform ≡ hub → IsReplyByHub hub state.house change.config answer
      → Some name ≡ refused_by answer → cause.Unknown ≡ done_cause config events (asked.Change change) answer → ⊥
  by_change true change (reply.House given) same none named is = none
  by_change true change (reply.Configured at) same replied named is = absurd (cc)
  by_change true change (reply.Lowered at event kind) same replied named is = absurd (cc)
  by_change true change (reply.Otherwise at event kind) same replied named is = absurd (cc)
  by_change false change (reply.House given) same replied named is = no_hub (is_hub config change.platform) _ same is
  by_change false change (reply.Configured at) same replied named is = absurd (cc)
  by_change false change (reply.Lowered at event kind) same replied named is = absurd (cc)
  by_change false change (reply.Otherwise at event kind) same replied named is = absurd (cc)

  by_asked : (asks : Asked) (answer : StreamReply) → IsReplyTo state.house asks answer → Some name ≡ refused_by answer
      → cause.Unknown ≡ done_cause config events asks answer → ⊥
  by_asked (asked.Request request) answer replied named is = by_request request answer replied named is
  by_asked (asked.Change change) answer replied named is = by_change (is_hub config change.platform) change answer refl replied named is

  by_done : (asks : AskedLine) (done : Option StreamReply) → IsRefusedBy state.house asks.asked done (Some name)
      → IsCauseOfAsked config events asks done cause.Unknown → ⊥
  by_done asks done one is =
      by_asked asks.asked one.answer one.replied one.name_is
      (subst (λ (it : Option StreamReply). IsCauseOfAsked config events asks it cause.Unknown) one.done_is is)

  -- ---- a line under a used request id

  by_id : (asks : AskedLine) (found : Remembered) (id : Option (List ℕ)) → asks.id ≡ id → found_under state.remembered (key_of asks) ≡ Some found
      → IsUsedId id cause.Unknown → ⊥
  by_id asks found None none under is =
      let without : found_under state.remembered (key_of asks) ≡ None =
      ap (λ (id : Option (List ℕ)). found_under state.remembered (key_of (record { id = id; asked = asks.asked }))) none in
      let e : None ≡ Some found = sym without ∙ under in
      absurd (cc)
  by_id asks found (Some id) some under is = absurd (cc (is.1))

  by_found : (asks : AskedLine) (found : Option Remembered) (line : List ℕ) (done : Option StreamReply) → found_under state.remembered (key_of asks) ≡ found
      → IsRefusedOnce state.house asks.asked found line done (Some name) → IsCauseOfAsked config events asks done cause.Unknown → ⊥
  by_found asks None line done under one is = by_done asks done one is
  by_found asks (Some found) line done under one is =
      by_id asks found asks.id refl under (subst (λ (it : Option StreamReply). IsCauseOfAsked config events asks it cause.Unknown) one.0 is)

  -- ---- by what is read of the line's value

  by_line : (node : Data) (read : Result AskedLine MemberFault) (line : List ℕ) (done : Option StreamReply) → IsRefusedAs state (or_field read) line done (Some name)
      → IsStreamCauseAt config events done node read cause.Unknown → ⊥
  by_line node (Err fault) line done refused is = absurd (cc (is.cause_is))
  by_line node (Ok asks) line done refused is = by_found asks (found_under state.remembered (key_of asks)) line done refl refused is

  by_value : (value : Option Data) (line : List ℕ) (done : Option StreamReply) → IsRefusedAs state (line_in value) line done (Some name)
      → IsStreamCauseIn config events done line value cause.Unknown → ⊥
  by_value None line done refused is = not_unknown_text refusals answers config events (is_utf8 line) line is
  by_value (Some node) line done refused is = by_line node (line_at node) line done refused is

  pub in_state : (line : List ℕ) (done : Option StreamReply) → IsRefused state line done (Some name)
      → IsCauseOfStreamLine config events done line cause.Unknown → ⊥
  unfolding IsCauseOfStreamLine asked_of
  in_state line done refused is = by_value (data_of line) line done refused is

pub refused_stream_lines : EachRefusalHasACause → RefusingAnswersHaveCauses → RefusedStreamLinesHaveCauses
refused_stream_lines refusals answers state line done name refused is = in_state refusals answers state name line done refused is
