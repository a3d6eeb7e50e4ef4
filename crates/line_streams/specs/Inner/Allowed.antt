-- What a line asks for and the configuration allows, and what is done for it.
use Rattle.std.specs.Prelude.{◌≡◌, ℕ, Bool, true, false, List, [], ◌∷◌, ◌++◌, Option, None, Some, Result, Ok, Err}
use Rattle.ocpi_types.specs.declared.config.Config.{Config}
use Rattle.ocpi_types.specs.Config.{is_hub}
use Rattle.ocpi_types.specs.declared.refusal.Refusal.{Refusal}
use Rattle.ocpi_types.specs.declared.refusal.Refusal.TheVariants as refusal
use Rattle.cdr_checks.specs.Admission.{IsAdmitted, admission}
use Rattle.cdr_checks.specs.declared.request.Command.{Command}
use Rattle.plain_house.specs.House.{events_after, reply_of}
use Rattle.request_lines.specs.AnswerText.{answer_text}
use Rattle.line_streams.specs.Change.{IsChanged, StreamHouse, refused_text}
use Rattle.sha2.specs.Sha256.{sha256}
use Rattle.line_streams.specs.Given.{IsReplyToChange}
use Rattle.line_streams.specs.State.{RequestKey, StreamState}
use Rattle.line_streams.specs.declared.allowed.Allowed.{Allowed}
use Rattle.line_streams.specs.declared.allowed.Allowed.TheVariants as may
use Rattle.line_streams.specs.declared.asked.Asked.{Asked}
use Rattle.line_streams.specs.declared.asked.Asked.TheVariants as asked
use Rattle.line_streams.specs.declared.reply.StreamReply.{StreamReply}
use Rattle.line_streams.specs.declared.reply.StreamReply.TheVariants as reply

-- ---- what is allowed

abbrev pub of_command : Result Command Refusal → Result Allowed Refusal
of_command (Ok command) = Ok (may.Command command)
of_command (Err why) = Err why

abbrev pub of_change : Bool → Config → Result Allowed Refusal
of_change true config = Ok (may.Change config)
of_change false config = Err refusal.NotYours

abbrev pub allow : Config → Asked → Result Allowed Refusal
allow config (asked.Request request) = of_command (admission config request)
allow config (asked.Change change) = of_change (is_hub config change.platform) change.config

-- a command is admitted
abbrev pub IsAllowed : Config → Allowed → Type 0
IsAllowed config (may.Command command) = IsAdmitted config command
IsAllowed config (may.Change change) = Unit {0}

-- ---- what is done

pub record IsCommandDone (house : StreamHouse) (command : Command) (text : List ℕ) (now : StreamHouse) : Type 0 where
  pub text_is : text ≡ answer_text house.config (reply_of house.config house.events command)
  pub now_is : now ≡ record { base = house.base; config = house.config; events = events_after house.config house.events command }

abbrev pub IsAllowedDone : StreamHouse → Allowed → List ℕ → StreamHouse → Type 0
IsAllowedDone house (may.Command command) text now = IsCommandDone house command text now
IsAllowedDone house (may.Change config) text now = IsChanged house config text now

abbrev pub IsDoneIf : StreamHouse → Result Allowed Refusal → List ℕ → StreamHouse → Type 0
IsDoneIf house (Ok allowed) text now = IsAllowedDone house allowed text now
IsDoneIf house (Err why) text now = (text ≡ refused_text house.config why) × (now ≡ house)

-- a line that is done first under its request id
pub record IsFirstDone (state : StreamState) (key : RequestKey) (allowed : Allowed) (line text : List ℕ) (now : StreamState) : Type 0 where
  pub done : IsAllowedDone state.house allowed text now.house
  pub remembered_is : now.remembered ≡ state.remembered ++ (key, record { digest = sha256 line; config = state.house.config; answer = text }) ∷ []

-- ---- the reply to it

abbrev pub IsReplyToAllowed : StreamHouse → Allowed → StreamReply → Type 0
IsReplyToAllowed house (may.Command command) answer = answer ≡ reply.House (reply_of house.config house.events command)
IsReplyToAllowed house (may.Change config) answer = IsReplyToChange house config answer

abbrev pub IsReplyIf : StreamHouse → Result Allowed Refusal → StreamReply → Type 0
IsReplyIf house (Ok allowed) answer = IsReplyToAllowed house allowed answer
IsReplyIf house (Err why) answer = answer ≡ reply.House (Err (record { at = None; refusal = why }))

-- the reply to what is done now
pub record IsAllowedNow (house : StreamHouse) (allowed : Allowed) (done : Option StreamReply) : Type 0 where
  pub answer : StreamReply
  pub done_is : done ≡ Some answer
  pub replied : IsReplyToAllowed house allowed answer
