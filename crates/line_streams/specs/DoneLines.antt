-- The lines that are done: each that has no request id, and those with one up to the first that takes it.
use Rattle.std.specs.Prelude.{◌≡◌, ℕ, Bool, true, false, not, List, [], ◌∷◌, ◌++◌, Option, None, Some, Result, Ok, Err, map, if◌then◌else◌}
use Rattle.std.specs.List.{list_any}
use Rattle.ocpi_types.specs.declared.config.Config.{Config}
use Rattle.ocpi_types.specs.declared.refusal.Refusal.{Refusal}
use Rattle.line_streams.specs.Asked.{asked_of}
use Rattle.line_streams.specs.State.{RememberedLines, RequestKey, StreamState, same_request}
use Rattle.line_streams.specs.Stream.{InTurn, IsAnswered, is_allowed, key_of}
use Rattle.line_streams.specs.declared.asked.Asked.{Asked}
use Rattle.line_streams.specs.declared.asked.AskedLine.{AskedLine}

-- ---- a line and the configuration at which it comes

pub record Arrival : Type 0 where
  pub config : Config
  pub line : List ℕ

abbrev pub lines_of : List Arrival → List (List ℕ)
lines_of arrivals = map (λ arrival. arrival.line) arrivals

-- the lines got this text, in turn, each under the configuration at which it comes
abbrev pub ArriveInTurn : StreamState → List Arrival → List ℕ → StreamState → Type 0
ArriveInTurn state [] text now = (text ≡ []) × (now ≡ state)
ArriveInTurn state (arrival ∷ later) text now =
    (arrival.config ≡ state.house.config)
    × InTurn (IsAnswered state arrival.line) (λ middle others last. ArriveInTurn middle later others last) text now

-- ---- request ids that are taken

-- a line takes its request id if what it asks for is allowed
abbrev pub taken_if : Bool → RequestKey → List RequestKey
taken_if true key = key ∷ []
taken_if false key = []

abbrev pub taken_under : Config → Option RequestKey → Asked → List RequestKey
taken_under config None asks = []
taken_under config (Some key) asks = taken_if (is_allowed config asks) key

-- a line that cannot be read takes none
abbrev pub taken_as : Config → Result AskedLine Refusal → List RequestKey
taken_as config (Err why) = []
taken_as config (Ok asks) = taken_under config (key_of asks) asks.asked

-- the request id that a line takes when it is done
abbrev pub taken_by : Arrival → List RequestKey
taken_by arrival = taken_as arrival.config (asked_of arrival.line)

-- the request ids that lines have taken
abbrev pub taken_in : RememberedLines → List RequestKey
taken_in remembered = map (λ entry. entry.0) remembered

-- ---- the lines that are done

-- no line has taken the request id, or the line has none
abbrev pub is_free : List RequestKey → Option RequestKey → Bool
is_free taken None = true
is_free taken (Some key) = not (list_any (same_request key) taken)

-- the line can be read, and its request id is free
abbrev pub is_done : List RequestKey → Result AskedLine Refusal → Bool
is_done taken (Err why) = false
is_done taken (Ok asks) = is_free taken (key_of asks)

-- the lines that are done, in order, after lines that have taken request ids
abbrev pub done_lines : List RequestKey → List Arrival → List (List ℕ)
done_lines taken [] = []
done_lines taken (arrival ∷ later) =
    if is_done taken (asked_of arrival.line)
    then arrival.line ∷ done_lines (taken ++ taken_by arrival) later
    else done_lines taken later
