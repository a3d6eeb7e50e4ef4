-- A line that is refused by the line and the configuration alone does nothing.
use Rattle.std.proofs.Common.{◌≡◌, ℕ, List, [], ◌++◌, Bool, true, false, refl, ap, ◌∙◌, Option, None, Some, Result, Ok, Err}
use Rattle.std.proofs.lemmas.List.{append-nil}
use Rattle.std.proofs.lemmas.Option.{none-some, same_Some}
use Rattle.std.specs.Prelude.{is_ok}
use Rattle.ocpi_types.specs.Config.{is_hub}
use Rattle.ocpi_types.specs.declared.config.Config.{Config}
use Rattle.ocpi_types.specs.declared.refusal.Refusal.{Refusal}
use Rattle.cdr_checks.specs.Admission.{admission}
use Rattle.cdr_checks.specs.declared.request.Command.{Command}
use Rattle.request_lines.specs.AnswerText.{answer_text}
use Rattle.request_lines.specs.Script.{list_with, reply_to}
use Rattle.line_streams.specs.Asked.{asked_of}
use Rattle.line_streams.specs.Change.{ByHub, IsDone, StreamHouse, refused_text}
use Rattle.line_streams.specs.Law.{RefusedLinesDoNothing, found_for, refusal_for, refusal_if, refusal_of, refusal_of_request}
use Rattle.line_streams.specs.State.{Remembered, RememberedLines, RequestKey, StreamState}
use Rattle.sha2.specs.Sha256.{sha256}
use Rattle.line_streams.specs.Stream.{IsAnsweredAs, IsDoneOnce, found_under, is_allowed, key_of, remembered_if, remembered_under}
use Rattle.line_streams.specs.declared.asked.Asked.{Asked}
use Rattle.line_streams.specs.declared.asked.Asked.TheVariants as asked
use Rattle.line_streams.specs.declared.asked.AskedLine.{AskedLine}
use Rattle.line_streams.proofs.StreamLemmas.{same_stream}

-- a text, and a house that is as it was
abbrev AreRefused : StreamHouse → Refusal → List ℕ → StreamHouse → Type 0
AreRefused house why text now = (text ≡ refused_text house.config why) × (now ≡ house)

by_request : (house now : StreamHouse) (m : Result Command Refusal) (why : Refusal) (text : List ℕ) → refusal_of_request m ≡ Some why
    → text ≡ answer_text house.config (reply_to house.config house.events m)
    → now ≡ record { base = house.base; config = house.config; events = list_with house.config house.events m } → AreRefused house why text now
by_request house now (Ok command) why text refused text_is now_is = absurd (none-some why refused)
by_request house now (Err found) why text refused text_is now_is = (text_is ∙ ap (refused_text house.config) (same_Some found why refused), now_is)

by_change : (hub : Bool) (house now : StreamHouse) (config : Config) (why : Refusal) (text : List ℕ) → refusal_if hub ≡ Some why → ByHub hub house config text now
    → AreRefused house why text now
by_change true house now config why text refused by = absurd (none-some why refused)
by_change false house now config why text refused by = (by.0 ∙ ap (refused_text house.config) (same_Some _ why refused), by.1)

by_asked : (house now : StreamHouse) (asks : Asked) (why : Refusal) (text : List ℕ) → refusal_for house.config asks ≡ Some why → IsDone house asks text now
    → AreRefused house why text now
by_asked house now (asked.Request request) why text refused done = by_request house now (admission house.config request) why text refused done.text_is done.now_is
by_asked house now (asked.Change change) why text refused done = by_change (is_hub house.config change.platform) house now change.config why text refused done

-- it is not allowed, and so not remembered
not_request : (m : Result Command Refusal) (why : Refusal) (key : RequestKey) (done : Remembered) → refusal_of_request m ≡ Some why → remembered_if (is_ok m) key done ≡ []
not_request (Ok command) why key done refused = absurd (none-some why refused)
not_request (Err found) why key done refused = refl

not_change : (hub : Bool) (why : Refusal) (key : RequestKey) (done : Remembered) → refusal_if hub ≡ Some why → remembered_if hub key done ≡ []
not_change true why key done refused = absurd (none-some why refused)
not_change false why key done refused = refl

not_under : (config : Config) (asks : Asked) (why : Refusal) (key : RequestKey) (done : Remembered) → refusal_for config asks ≡ Some why
    → remembered_if (is_allowed config asks) key done ≡ []
not_under config (asked.Request request) why key done refused = not_request (admission config request) why key done refused
not_under config (asked.Change change) why key done refused = not_change (is_hub config change.platform) why key done refused

none_remembered : (config : Config) (key : Option RequestKey) (asks : Asked) (why : Refusal) (line text : List ℕ) → refusal_for config asks ≡ Some why
    → remembered_under config key asks line text ≡ []
none_remembered config None asks why line text refused = refl
none_remembered config (Some key) asks why line text refused =
    not_under config asks why key (record { digest = sha256 line; config = config; answer = text }) refused

-- ---- one line

abbrev DoesNothing : StreamState → Refusal → Option Remembered → List ℕ → StreamState → Type 0
DoesNothing state why found text now = (now ≡ state) × (found ≡ None → text ≡ refused_text state.house.config why)

by_once : (state now : StreamState) (key : Option RequestKey) (asks : Asked) (found : Option Remembered) (why : Refusal) (line text : List ℕ)
    → refusal_for state.house.config asks ≡ Some why → IsDoneOnce state key asks found line text now → DoesNothing state why found text now
by_once state now key asks None why line text refused done =
    let it = by_asked state.house now.house asks why text refused done.done in (
      same_stream now state it.1
          (done.remembered_is ∙ ap (λ (more : RememberedLines). state.remembered ++ more) (none_remembered state.house.config key asks why line text refused)
          ∙ append-nil state.remembered),
      λ none. it.0,
    )
by_once state now key asks (Some found) why line text refused done = (done.1, λ none. absurd (cc))

by_line : (state now : StreamState) (m : Result AskedLine Refusal) (why : Refusal) (line text : List ℕ) → refusal_of state.house.config m ≡ Some why
    → IsAnsweredAs state m line text now → DoesNothing state why (found_for state.remembered m) text now
by_line state now (Err found) why line text refused answered =
    (answered.1, λ none. answered.0 ∙ ap (refused_text state.house.config) (same_Some found why refused))
by_line state now (Ok asks) why line text refused answered =
    by_once state now (key_of asks) asks.asked (found_under state.remembered (key_of asks)) why line text refused answered

pub do_nothing : RefusedLinesDoNothing
do_nothing state now line text why refused answered = by_line state now (asked_of line) why line text refused answered
