-- The answers to the lines of a stream: each line is done once, under the configuration in force.
use Rattle.std.specs.Prelude.{◌≡◌, ◌⊎◌, ℕ, Bool, true, false, List, [], ◌∷◌, ◌++◌, Option, Some, None, option_map, Result, Ok, Err, is_ok, if◌then◌else◌}
use Rattle.std.specs.Map.{lookup}
use Rattle.ocpi_types.specs.declared.config.Config.{Config}
use Rattle.ocpi_types.specs.declared.refusal.Refusal.{Refusal}
use Rattle.ocpi_types.specs.Config.{is_hub}
use Rattle.cdr_checks.specs.Admission.{admission}
use Rattle.request_lines.specs.Answering.{Rule}
use Rattle.sha2.specs.Sha256.{sha256}
use Rattle.line_streams.specs.Asked.{asked_of}
use Rattle.line_streams.specs.Change.{IsDone, refused_text, used_text}
use Rattle.line_streams.specs.State.{Remembered, RememberedLines, RequestKey, StreamState, is_same_line, same_request}
use Rattle.line_streams.specs.declared.asked.Asked.{Asked}
use Rattle.line_streams.specs.declared.asked.Asked.TheVariants as asked
use Rattle.line_streams.specs.declared.asked.AskedLine.{AskedLine}

-- ---- request ids

-- who asks
abbrev pub asking : Asked → List ℕ
asking (asked.Request request) = request.platform
asking (asked.Change change) = change.platform

-- the request id of a line, which is its platform's own
abbrev pub key_of : AskedLine → Option RequestKey
key_of line = option_map (λ id. record { platform = asking line.asked; id = id }) line.id

-- what is remembered under a request id
abbrev pub found_under : RememberedLines → Option RequestKey → Option Remembered
found_under remembered None = None
found_under remembered (Some key) = lookup (same_request key) remembered

-- the configuration allows what is asked for: it admits the request, or the platform that asks for the change is a hub
abbrev pub is_allowed : Config → Asked → Bool
is_allowed config (asked.Request request) = is_ok (admission config request)
is_allowed config (asked.Change change) = is_hub config change.platform

-- a line is remembered under its request id if what it asks for is allowed
abbrev pub remembered_if : Bool → RequestKey → Remembered → RememberedLines
remembered_if true key done = (key, done) ∷ []
remembered_if false key done = []

abbrev pub remembered_under : Config → Option RequestKey → Asked → List ℕ → List ℕ → RememberedLines
remembered_under config None asks line answer = []
remembered_under config (Some key) asks line answer =
    remembered_if (is_allowed config asks) key (record { digest = sha256 line; config = config; answer = answer })

-- the answer to a line under whose request id a line was done: the same bytes if it is the same line
abbrev pub again_text : Remembered → List ℕ → List ℕ
again_text found line = if is_same_line found line then found.answer else used_text

-- ---- one line

-- a line is done, and remembered under its request id
pub record IsDoneLine (state : StreamState) (key : Option RequestKey) (asks : Asked) (line text : List ℕ) (now : StreamState) : Type 0 where
  pub done : IsDone state.house asks text now.house
  pub remembered_is : now.remembered ≡ state.remembered ++ remembered_under state.house.config key asks line text

-- nothing is done for a line under whose request id a line was done
abbrev pub IsDoneOnce : StreamState → Option RequestKey → Asked → Option Remembered → List ℕ → List ℕ → StreamState → Type 0
IsDoneOnce state key asks None line text now = IsDoneLine state key asks line text now
IsDoneOnce state key asks (Some found) line text now = (text ≡ again_text found line) × (now ≡ state)

abbrev pub IsAnsweredAs : StreamState → Result AskedLine Refusal → List ℕ → List ℕ → StreamState → Type 0
IsAnsweredAs state (Err why) line text now = (text ≡ refused_text state.house.config why) × (now ≡ state)
IsAnsweredAs state (Ok asks) line text now = IsDoneOnce state (key_of asks) asks.asked (found_under state.remembered (key_of asks)) line text now

abbrev pub IsAnswered : StreamState → List ℕ → List ℕ → StreamState → Type 0
IsAnswered state line text now = IsAnsweredAs state (asked_of line) line text now

-- ---- many lines

-- one line, and then the others
pub record InTurn {A : Type 0} (First : List ℕ → A → Type 0) (Rest : A → List ℕ → A → Type 0) (text : List ℕ) (now : A) : Type 0 where
  pub one : List ℕ
  pub others : List ℕ
  pub middle : A
  pub text_is : text ≡ one ++ others
  pub first : First one middle
  pub rest : Rest middle others now

-- the lines got this text, in turn, on the way from one state to another
abbrev pub AreAnswered : StreamState → List (List ℕ) → List ℕ → StreamState → Type 0
AreAnswered state [] text now = (text ≡ []) × (now ≡ state)
AreAnswered state (line ∷ lines) text now =
    InTurn (IsAnswered state line) (λ middle others last. AreAnswered middle lines others last) text now

-- the rule of a stream: if memory runs out at a line, the line is done or not
abbrev pub stream_rule : Rule StreamState
stream_rule = record {
  answers = AreAnswered;
  gives_up = λ state line now. (now ≡ state) ⊎ ((text : List ℕ) × IsAnswered state line text now);
}
