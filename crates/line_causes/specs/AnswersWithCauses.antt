-- The answers of a stream in which each refusal that the line and the configuration decide has its cause.
use Rattle.std.specs.Prelude.{◌≡◌, ◌⊎◌, ◌-◌, ℕ, Bool, true, false, List, [], ◌∷◌, ◌++◌, Option, Some, None, Result, Ok, Err, codes, length, nat_le, take}
use Rattle.ocpi_types.specs.Refusal.{refusal_number}
use Rattle.ocpi_types.specs.declared.config.Config.{Config}
use Rattle.ocpi_types.specs.declared.refusal.Refusal.{Refusal}
use Rattle.plain_house.specs.Replies.{Reply}
use Rattle.request_lines.specs.Answering.{Rule}
use Rattle.line_streams.specs.Asked.{asked_of}
use Rattle.line_streams.specs.State.{Remembered, StreamState}
use Rattle.line_streams.specs.Stream.{InTurn, IsAnswered, found_under, key_of}
use Rattle.line_streams.specs.declared.asked.AskedLine.{AskedLine}
use Rattle.line_streams.specs.declared.reply.StreamReply.{StreamReply}
use Rattle.line_streams.specs.declared.reply.StreamReply.TheVariants as reply
use Rattle.line_causes.specs.JsonText.{json_text}
use Rattle.line_causes.specs.OwnCauses.{IsOwnCause}
use Rattle.line_causes.specs.declared.line_cause.LineCause.{LineCause}

-- ---- one answer

-- a refusal with one of the numbers 1 to 12
abbrev pub refuses_by_line : Reply → Bool
refuses_by_line (Ok replied) = false
refuses_by_line (Err refused) = nat_le (refusal_number refused.refusal) 12

abbrev pub is_by_line : StreamReply → Bool
is_by_line (reply.House given) = refuses_by_line given
is_by_line (reply.Configured at) = false
is_by_line (reply.Lowered at event kind) = false
is_by_line (reply.Otherwise at event kind) = false

-- the member `cause`, and what ends an answer
abbrev pub cause_member : LineCause → List ℕ
cause_member why = codes ",\"cause\":" ++ (json_text why ++ codes "}\n")

-- an answer without its closing brace and its newline
abbrev pub without_end : List ℕ → List ℕ
without_end answer = take (length answer - 2) answer

-- the answer, with the cause as its last member if there is one
abbrev pub with_cause : List ℕ → Option LineCause → List ℕ
with_cause answer None = answer
with_cause answer (Some why) = without_end answer ++ cause_member why

-- ---- one line

-- a line has no cause under whose request id a line was done: only a line that the configuration allows takes its id
abbrev pub IsExplainedOnce : Config → Option Remembered → List ℕ → Option LineCause → Type 0
IsExplainedOnce config None line why = IsOwnCause config line why
IsExplainedOnce config (Some found) line why = why ≡ None

abbrev pub IsExplainedAs : StreamState → Result AskedLine Refusal → List ℕ → Option LineCause → Type 0
IsExplainedAs state (Err refusal) line why = IsOwnCause state.house.config line why
IsExplainedAs state (Ok asks) line why = IsExplainedOnce state.house.config (found_under state.remembered (key_of asks)) line why

-- the cause of a line's answer in a state, if it has one
abbrev pub IsExplained : StreamState → List ℕ → Option LineCause → Type 0
IsExplained state line why = IsExplainedAs state (asked_of line) line why

-- a line is answered as by a stream, with the cause
pub record IsAnsweredWithCause (state : StreamState) (line text : List ℕ) (now : StreamState) : Type 0 where
  pub answer : List ℕ
  pub cause : Option LineCause
  pub answered : IsAnswered state line answer now
  pub explained : IsExplained state line cause
  pub text_is : text ≡ with_cause answer cause

-- ---- many lines

abbrev pub AreAnsweredWithCauses : StreamState → List (List ℕ) → List ℕ → StreamState → Type 0
AreAnsweredWithCauses state [] text now = (text ≡ []) × (now ≡ state)
AreAnsweredWithCauses state (line ∷ lines) text now =
    InTurn (IsAnsweredWithCause state line) (λ middle others last. AreAnsweredWithCauses middle lines others last) text now

-- the rule of a stream whose answers have causes: if memory runs out at a line, the line is done or not
abbrev pub causes_rule : Rule StreamState
causes_rule = record {
  answers = AreAnsweredWithCauses;
  gives_up = λ state line now. (now ≡ state) ⊎ ((answer : List ℕ) × IsAnswered state line answer now);
}
