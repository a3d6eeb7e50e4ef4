-- The state of a stream: a house under the configuration in force, and the lines that it remembers.
use Rattle.std.specs.Prelude.{ℕ, Bool, ◌&&◌, List, [], map, Option, Some, None, option_map}
use Rattle.indexmap.specs.IndexMap.{IndexMap}
use Rattle.line_streams.specs.Change.{StreamHouse, configured_text, lowered_text, otherwise_text, under, used_text}
use Rattle.line_streams.specs.declared.answered.Answered.{Answered}
use Rattle.line_streams.specs.declared.answered.AnsweredLines.{AnsweredLines}
use Rattle.line_streams.specs.declared.request_id.IdKey.{IdKey}
use Rattle.line_streams.specs.declared.reply.StreamReply.TheVariants as reply
use Rattle.line_streams.specs.declared.reply.LineReply.{LineReply}
use Rattle.line_streams.specs.declared.reply.LineReply.TheVariants as given
use Rattle.line_streams.specs.declared.reply.StreamReply.{StreamReply}
use Rattle.line_streams.specs.declared.stream.Stream.{Stream}
use Rattle.ocpi_json.specs.Folded.{same_folded}
use Rattle.ocpi_types.specs.declared.config.Config.{Config}
use Rattle.plain_house.specs.State.{State}
use Rattle.request_lines.specs.AnswerText.{answer_text}
use Rattle.sha2.specs.Sha256.{sha256}
use Rattle.std.specs.Map.{lookup}
use Rattle.std.specs.Str.{bytes_eq}

-- a platform, and the id that it gave a request
pub record RequestKey : Type 0 where
  pub platform : List ℕ
  pub id : List ℕ

-- the same id of the same platform: names are compared with letters folded, ids byte by byte
abbrev pub same_request : RequestKey → RequestKey → Bool
same_request one other = same_folded one.platform other.platform && bytes_eq one.id other.id

-- a line that was done under a request id: the SHA-256 of its bytes, the configuration that was in force then, and its answer
pub record Remembered : Type 0 where
  pub digest : List ℕ
  pub config : Config
  pub answer : List ℕ

-- a line counts as the one that was done if its SHA-256 is the same
abbrev pub is_same_line : Remembered → List ℕ → Bool
is_same_line found line = bytes_eq found.digest (sha256 line)

-- the lines that were done under request ids, the first one first
abbrev pub RememberedLines : Type 0
RememberedLines = List (RequestKey × Remembered)

pub record StreamState : Type 0 where
  pub house : StreamHouse
  pub remembered : RememberedLines

-- before the first line
abbrev pub empty_under : Config → StreamState
empty_under config = record { house = under config []; remembered = [] }

-- the events, and the configuration under which they are legal
abbrev pub house_in : StreamState → State
house_in state = record { config = state.house.base; events = state.house.events }

-- ---- the state that a stream stands for

-- the text of a reply that was given under a configuration
abbrev pub reply_text : Config → StreamReply → List ℕ
reply_text config (reply.House given) = answer_text config given
reply_text config (reply.Configured at) = configured_text at
reply_text config (reply.Lowered at event kind) = lowered_text at event kind.now
reply_text config (reply.Otherwise at event kind) = otherwise_text at event kind.now

abbrev pub shown_key : IdKey → RequestKey
shown_key key = record { platform = key.platform; id = key.id.bytes }

abbrev pub same_key : IdKey → IdKey → Bool
same_key one other = same_folded one.platform other.platform && bytes_eq one.id.bytes other.id.bytes

abbrev pub shown_answered : Answered → Remembered
shown_answered answered = record { digest = answered.digest; config = answered.config; answer = reply_text answered.config answered.reply }

abbrev pub shown_entry : IdKey × Answered → RequestKey × Remembered
shown_entry entry = (shown_key entry.0, shown_answered entry.1)

abbrev pub shown_lines : AnsweredLines → RememberedLines
shown_lines answered = map shown_entry answered.lines.entries

-- the answer that is remembered, if one is
abbrev pub remembered_text : Option Remembered → List ℕ
remembered_text None = []
remembered_text (Some one) = one.answer

-- the answer that a reply is written as, under the configuration in force and with the lines that are remembered
abbrev pub line_text : Config → RememberedLines → LineReply → List ℕ
line_text config lines (given.Done reply) = reply_text config reply
line_text config lines (given.Remembered key) = remembered_text (lookup (same_request (shown_key key)) lines)
line_text config lines (given.Repeated key) = remembered_text (lookup (same_request (shown_key key)) lines)
line_text config lines given.IdUsed = used_text

-- the configuration that was in force when a repeated line was done; for another line the one in force
abbrev pub config_at : StreamState → LineReply → Option Config
config_at state (given.Done reply) = Some state.house.config
config_at state (given.Remembered key) = Some state.house.config
config_at state (given.Repeated key) = option_map (λ one. one.config) (lookup (same_request (shown_key key)) state.remembered)
config_at state given.IdUsed = None

-- the house of a stream: its list is legal under the house's own configuration
abbrev pub shown_house : Config → State → StreamHouse
shown_house config house = record { base = house.config; config = config; events = house.events }

abbrev pub state_of : Stream → StreamState
state_of stream = record { house = shown_house stream.in_force.config stream.house; remembered = shown_lines stream.answered }
