-- The state of an open house before a line and after it.
use Rattle.std.specs.Prelude.{◌≡◌, ℕ, ◌<◌, ◌≤◌, List, ◌++◌, length, drop, Option, Some, None, IsSome, is_some, if◌then◌else◌}
use Rattle.line_causes.specs.JsonText.{json_text}
use Rattle.line_causes.specs.Refused.{IsRefused}
use Rattle.line_causes.specs.StreamCauses.{IsCauseOfStreamLine}
use Rattle.line_causes.specs.declared.line_cause.LineCause.{LineCause}
use Rattle.line_streams.specs.State.{StreamState, empty_under}
use Rattle.line_streams.specs.Stream as stream
use Rattle.line_streams.specs.declared.reply.StreamReply.{StreamReply}
use Rattle.ocpi_types.specs.declared.config.Config.{Config}
use Rattle.request_lines.specs.Lines.{IsShort, HasNoNewline}
use Rattle.clear_embedded.specs.Standing.{Refused, Standing}
use Rattle.clear_embedded.specs.declared.code.Code.{Code}
use Rattle.clear_embedded.specs.declared.code.Code.TheVariants.{Done, NoMemory, Closed, Open, NoJson, Member, NoLine, Kept, TooSmall, NotWritten, NothingKept, NotRefused}

-- ---- the house

-- an empty house under this configuration
abbrev pub opened : Config → Standing
opened config = record { stream = empty_under config; kept = None; refused = None }

-- nothing is kept any more
abbrev pub given : Standing → Standing
given house = record { stream = house.stream; kept = None; refused = house.refused }

-- at most 1,048,576 bytes, and none of them a newline
abbrev pub IsLine : List ℕ → Type 0
IsLine line = IsShort line × HasNoNewline line

-- the line, if it is refused
abbrev pub refused_with : List ℕ → Option StreamReply → Option (List ℕ) → Option Refused
refused_with line done name = if is_some name then Some (record { line = line; done = done }) else None

pub record IsRefusedLine (state : StreamState) (line : List ℕ) (refused : Option Refused) : Type 0 where
  pub done : Option StreamReply
  pub name : Option (List ℕ)
  pub is : IsRefused state line done name
  pub refused_is : refused ≡ refused_with line done name

-- the stream answered the line with this text, and nothing was kept before
pub record IsLineDone (house : Standing) (line text : List ℕ) (kept : Option (List ℕ)) (house' : Standing) : Type 0 where
  pub nothing_kept : house.kept ≡ None
  pub answered : stream.IsAnswered house.stream line text house'.stream
  pub kept_is : house'.kept ≡ kept
  pub refused : IsRefusedLine house.stream line house'.refused

-- ---- the caller's buffer

-- the buffer before the call and after it, and the length that was reported
pub record Buffer : Type 0 where
  pub before : List ℕ
  pub after : List ℕ
  pub reported : ℕ

-- the text stands at the buffer's beginning, and what was behind it is as it was
pub record IsWritten (text : List ℕ) (buffer : Buffer) : Type 0 where
  pub fits : length text ≤ length buffer.before
  pub after_is : buffer.after ≡ text ++ drop (length text) buffer.before
  pub reported_is : buffer.reported ≡ length text

-- the text is longer than the buffer, which is as it was, and its length is reported
pub record IsTooLong (text : List ℕ) (buffer : Buffer) : Type 0 where
  pub too_long : length buffer.before < length text
  pub after_is : buffer.after ≡ buffer.before
  pub reported_is : buffer.reported ≡ length text

-- no length is reported, and the buffer is as it was
pub record IsUnwritten (buffer : Buffer) : Type 0 where
  pub after_is : buffer.after ≡ buffer.before
  pub reported_is : buffer.reported ≡ 0

-- the text is written, or is too long for the buffer
abbrev pub IsPut : Code → List ℕ → Buffer → Type 0
IsPut Done text buffer = IsWritten text buffer
IsPut TooSmall text buffer = IsTooLong text buffer
IsPut NoMemory text buffer = ⊥
IsPut Closed text buffer = ⊥
IsPut Open text buffer = ⊥
IsPut NoJson text buffer = ⊥
IsPut Member text buffer = ⊥
IsPut NoLine text buffer = ⊥
IsPut Kept text buffer = ⊥
IsPut NotWritten text buffer = ⊥
IsPut NothingKept text buffer = ⊥
IsPut NotRefused text buffer = ⊥

-- ---- a line

-- The stream answers the line, once, at `Done`, `TooSmall` and `NotWritten`; the answer is in the buffer or kept. At any other
-- code the house is as it was.
abbrev pub IsAnswered : Code → Standing → List ℕ → Standing → Buffer → Type 0
IsAnswered Done house line house' buffer = (text : List ℕ) × IsLineDone house line text None house' × IsWritten text buffer
IsAnswered TooSmall house line house' buffer = (text : List ℕ) × IsLineDone house line text (Some text) house' × IsTooLong text buffer
IsAnswered NotWritten house line house' buffer = (text : List ℕ) × IsLineDone house line text (Some text) house' × IsUnwritten buffer
IsAnswered NoMemory house line house' buffer = (house.kept ≡ None) × IsLine line × (house' ≡ house) × IsUnwritten buffer
IsAnswered Kept house line house' buffer = IsSome house.kept × (house' ≡ house) × IsUnwritten buffer
IsAnswered NoLine house line house' buffer = (house.kept ≡ None) × (IsLine line → ⊥) × (house' ≡ house) × IsUnwritten buffer
IsAnswered Closed house line house' buffer = ⊥
IsAnswered Open house line house' buffer = ⊥
IsAnswered NoJson house line house' buffer = ⊥
IsAnswered Member house line house' buffer = ⊥
IsAnswered NothingKept house line house' buffer = ⊥
IsAnswered NotRefused house line house' buffer = ⊥

-- ---- the kept answer

-- at `Done` the kept answer is in the buffer; else it stays kept
abbrev pub IsGivenAgain : Code → Standing → Standing → Buffer → Type 0
IsGivenAgain Done house house' buffer = (text : List ℕ) × (house.kept ≡ Some text) × (house' ≡ given house) × IsWritten text buffer
IsGivenAgain TooSmall house house' buffer = (text : List ℕ) × (house.kept ≡ Some text) × (house' ≡ house) × IsTooLong text buffer
IsGivenAgain NotWritten house house' buffer = IsSome house.kept × (house' ≡ house) × IsUnwritten buffer
IsGivenAgain NothingKept house house' buffer = (house.kept ≡ None) × (house' ≡ house) × IsUnwritten buffer
IsGivenAgain NoMemory house house' buffer = ⊥
IsGivenAgain Kept house house' buffer = ⊥
IsGivenAgain NoLine house house' buffer = ⊥
IsGivenAgain Closed house house' buffer = ⊥
IsGivenAgain Open house house' buffer = ⊥
IsGivenAgain NoJson house house' buffer = ⊥
IsGivenAgain Member house house' buffer = ⊥
IsGivenAgain NotRefused house house' buffer = ⊥

-- ---- the cause of a refusal

-- the cause of the last line, as JSON
pub record IsCauseText (house : Standing) (text : List ℕ) : Type 0 where
  pub refused : Refused
  pub refused_is : house.refused ≡ Some refused
  pub cause : LineCause
  pub cause_is : IsCauseOfStreamLine house.stream.house.config house.stream.house.events refused.done refused.line cause
  pub text_is : text ≡ json_text cause

-- at `Done` the cause of the last line, which was refused, is in the buffer; the house does not change
abbrev pub IsExplained : Code → Standing → Buffer → Type 0
IsExplained Done house buffer = (text : List ℕ) × IsCauseText house text × IsWritten text buffer
IsExplained TooSmall house buffer = (text : List ℕ) × IsCauseText house text × IsTooLong text buffer
IsExplained NoMemory house buffer = IsSome house.refused × IsUnwritten buffer
IsExplained NotRefused house buffer = (house.refused ≡ None) × IsUnwritten buffer
IsExplained NotWritten house buffer = ⊥
IsExplained NothingKept house buffer = ⊥
IsExplained Kept house buffer = ⊥
IsExplained NoLine house buffer = ⊥
IsExplained Closed house buffer = ⊥
IsExplained Open house buffer = ⊥
IsExplained NoJson house buffer = ⊥
IsExplained Member house buffer = ⊥
