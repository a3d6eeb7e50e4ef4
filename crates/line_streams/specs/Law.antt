-- What follows from the definitions.
use Rattle.std.specs.Prelude.{◌≡◌, ◌≢◌, ◌⊎◌, ℕ, Bool, true, false, List, [], ◌∷◌, length, flat_map, Option, None, Some, Result, Ok, Err}
use Rattle.std.specs.List.{AllByRecursion}
use Rattle.json.specs.Json.{Json as Data}
use Rattle.ocpi_json.specs.Reading.{data_of}
use Rattle.ocpi_types.specs.declared.config.Config.{Config}
use Rattle.ocpi_types.specs.declared.refusal.Refusal.{Refusal}
use Rattle.ocpi_types.specs.declared.refusal.Refusal.TheVariants as refusal
use Rattle.ocpi_types.specs.Config.{is_hub}
use Rattle.cdr_checks.specs.Admission.{admission}
use Rattle.cdr_checks.specs.declared.request.Command.{Command}
use Rattle.plain_house.specs.Legal.{IsLegal}
use Rattle.period_order.specs.Judging.{MayJudge}
use Rattle.request_lines.specs.Script.{answers_to, list_after}
use Rattle.sha2.specs.Sha256.{sha256}
use Rattle.line_streams.specs.Asked.{asked_of, is_change_line, request_id_at}
use Rattle.line_streams.specs.Bounds.{AddsInForce}
use Rattle.line_streams.specs.Change.{IsDone, StreamHouse, refused_text, used_text}
use Rattle.line_streams.specs.DoneLines.{Arrival, ArriveInTurn, done_lines, lines_of, taken_in}
use Rattle.line_streams.specs.State.{Remembered, RememberedLines, RequestKey, StreamState, empty_under, house_in, same_request}
use Rattle.line_streams.specs.Stream.{AreAnswered, InTurn, IsAnswered, asking, found_under, is_allowed, key_of}
use Rattle.line_streams.specs.declared.asked.Asked.{Asked}
use Rattle.line_streams.specs.declared.asked.Asked.TheVariants as asked
use Rattle.line_streams.specs.declared.asked.AskedLine.{AskedLine}

-- ---- scripts

abbrev pub HasNoRequestId : Option Data → Type 0
HasNoRequestId None = Unit {0}
HasNoRequestId (Some node) = request_id_at node ≡ Ok None

-- the line asks for no change and has no request id
abbrev pub IsOfScript : List ℕ → Type 0
IsOfScript line = (is_change_line line ≡ false) × HasNoRequestId (data_of line)

-- such lines are answered as a script answers them
abbrev pub UnchangedIsAScript : Type 0
UnchangedIsAScript =
    (state : StreamState) (lines : List (List ℕ)) (text : List ℕ) (now : StreamState) → AllByRecursion IsOfScript lines →
    AreAnswered state lines text now →
    (text ≡ answers_to state.house.config state.house.events lines)
    × (now ≡ record {
      house = record { base = state.house.base; config = state.house.config; events = list_after state.house.config state.house.events lines };
      remembered = state.remembered;
    })

-- ---- streams

-- the events are legal under the base, and what is judged by the configuration in force is legal under the base too
pub record IsSound (house : StreamHouse) : Type 0 where
  pub legal : IsLegal house.base house.events
  pub judges : MayJudge house.config house.base

-- a house stays so, whatever the lines are
abbrev pub StreamsStaySound : Type 0
StreamsStaySound =
    (state : StreamState) (lines : List (List ℕ)) (text : List ℕ) (now : StreamState) → IsSound state.house →
    AreAnswered state lines text now → IsSound now.house

-- so the events of a stream that begins without any are a legal list
abbrev pub StreamsStayLegal : Type 0
StreamsStayLegal =
    (config : Config) (lines : List (List ℕ)) (text : List ℕ) (now : StreamState) → AreAnswered (empty_under config) lines text now →
    IsLegal (house_in now).config (house_in now).events

-- lines are answered in one way
abbrev pub StreamsAreDetermined : Type 0
StreamsAreDetermined =
    (state : StreamState) (lines : List (List ℕ)) (one other : List ℕ) (now then : StreamState) →
    AreAnswered state lines one now → AreAnswered state lines other then → (one ≡ other) × (now ≡ then)

-- any lines are answered: each line gets one answer, in order
abbrev pub StreamsAnswerEveryLine : Type 0
StreamsAnswerEveryLine =
    (state : StreamState) (lines : List (List ℕ)) →
    (answers : List (List ℕ)) × (now : StreamState) × (length answers ≡ length lines)
    × AreAnswered state lines (flat_map (λ answer. answer) answers) now

-- what a line adds keeps to the configuration in force when it comes, whatever lines came before and however a limit was lowered
abbrev pub AddedEventsKeepToTheirConfiguration : Type 0
AddedEventsKeepToTheirConfiguration =
    (config : Config) (lines : List (List ℕ)) (line texts text : List ℕ) (state now : StreamState) → AreAnswered (empty_under config) lines texts state →
    IsAnswered state line text now → AddsInForce state now

-- ---- request ids

-- the line can be read and has a request id
pub record HasId (line : List ℕ) : Type 0 where
  pub asks : AskedLine
  pub id : List ℕ
  pub reads : asked_of line ≡ Ok asks
  pub has_id : asks.id ≡ Some id

abbrev pub id_key : {line : List ℕ} → HasId line → RequestKey
id_key has = record { platform = asking has.asks.asked; id = has.id }

-- and the configuration allows what it asks for
pub record IsRemembered (config : Config) (line : List ℕ) : Type 0 where
  pub has : HasId line
  pub allowed : is_allowed config has.asks.asked ≡ true

-- if the configuration in force allows what such a line asks for when it comes first, then the line gets the same answer, byte by byte,
-- whenever it comes again, and nothing is done: after any other lines, and whatever configuration is then in force
abbrev pub RepeatsAreAnsweredAlike : Type 0
RepeatsAreAnsweredAlike =
    (state middle later now : StreamState) (line : List ℕ) (between : List (List ℕ)) (text texts again : List ℕ) → IsRemembered state.house.config line →
    IsAnswered state line text middle → AreAnswered middle between texts later → IsAnswered later line again now →
    (again ≡ text) × (now ≡ later)

-- two different texts with one SHA-256
pub record IsCollision (one other : List ℕ) : Type 0 where
  pub different : one ≢ other
  pub same : sha256 one ≡ sha256 other

-- a line under the request id that another line took gets the answer to that line, if it is that line or the two are a collision; else it
-- gets the refusal that the id is used
abbrev pub IsToldApart : List ℕ → List ℕ → List ℕ → List ℕ → Type 0
IsToldApart first text line again =
    ((again ≡ text) × ((line ≡ first) ⊎ IsCollision line first)) ⊎ ((again ≡ used_text) × (line ≢ first))

-- so is each line that comes under a request id after the line that took it: after any other lines, and whatever configuration is then in
-- force; and nothing is done
abbrev pub UsedIdsTellLinesApart : Type 0
UsedIdsTellLinesApart =
    (state middle later now : StreamState) (first line : List ℕ) (between : List (List ℕ)) (text texts again : List ℕ) →
    (is : IsRemembered state.house.config first) → found_under state.remembered (Some (id_key is.has)) ≡ None → IsAnswered state first text middle →
    AreAnswered middle between texts later → (has : HasId line) → same_request (id_key is.has) (id_key has) ≡ true → IsAnswered later line again now →
    IsToldApart first text line again × (now ≡ later)

-- why a line is refused by the line and the configuration alone: one of the refusals 1 to 12
abbrev pub refusal_if : Bool → Option Refusal
refusal_if true = None
refusal_if false = Some refusal.NotYours

abbrev pub refusal_of_request : Result Command Refusal → Option Refusal
refusal_of_request (Ok command) = None
refusal_of_request (Err why) = Some why

abbrev pub refusal_for : Config → Asked → Option Refusal
refusal_for config (asked.Request request) = refusal_of_request (admission config request)
refusal_for config (asked.Change change) = refusal_if (is_hub config change.platform)

abbrev pub refusal_of : Config → Result AskedLine Refusal → Option Refusal
refusal_of config (Err why) = Some why
refusal_of config (Ok asks) = refusal_for config asks.asked

-- the line that is remembered under the request id of a line
abbrev pub found_for : RememberedLines → Result AskedLine Refusal → Option Remembered
found_for remembered (Err why) = None
found_for remembered (Ok asks) = found_under remembered (key_of asks)

-- such a line changes nothing and is not remembered; it gets this refusal each time, unless another line took its request id
abbrev pub RefusedLinesDoNothing : Type 0
RefusedLinesDoNothing =
    (state now : StreamState) (line text : List ℕ) (why : Refusal) → refusal_of state.house.config (asked_of line) ≡ Some why →
    IsAnswered state line text now →
    (now ≡ state) × (found_for state.remembered (asked_of line) ≡ None → text ≡ refused_text state.house.config why)

-- a line is done whatever its request id is
abbrev pub IsDoneAs : StreamHouse → Result AskedLine Refusal → List ℕ → StreamHouse → Type 0
IsDoneAs house (Err why) text now = (text ≡ refused_text house.config why) × (now ≡ house)
IsDoneAs house (Ok asks) text now = IsDone house asks.asked text now

abbrev pub AreDone : StreamHouse → List (List ℕ) → List ℕ → StreamHouse → Type 0
AreDone house [] text now = (text ≡ []) × (now ≡ house)
AreDone house (line ∷ lines) text now =
    InTurn (λ one middle. IsDoneAs house (asked_of line) one middle) (λ middle others last. AreDone middle lines others last) text now

-- the house after lines with request ids is the house after those of them that `done_lines` names, each done whatever its request id is
abbrev pub RepeatsAddNothing : Type 0
RepeatsAddNothing =
    (state : StreamState) (lines : List (List ℕ)) (text : List ℕ) (now : StreamState) → AreAnswered state lines text now →
    (arrivals : List Arrival) × (lines_of arrivals ≡ lines) × ArriveInTurn state arrivals text now
    × ((texts : List ℕ) × AreDone state.house (done_lines (taken_in state.remembered) arrivals) texts now.house)
