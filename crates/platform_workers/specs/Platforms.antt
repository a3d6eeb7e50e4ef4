-- How a pass of a shared house answers lines.
use Rattle.std.specs.Prelude.{◌≡◌, ◌⊎◌, ℕ, false, List, [], ◌∷◌, ◌++◌, None, Result, Ok, Err}
use Rattle.ocpi_types.specs.declared.config.Config.{Config}
use Rattle.ocpi_types.specs.declared.refusal.Refusal.{Refusal}
use Rattle.cdr_checks.specs.declared.request.Command.{Command}
use Rattle.plain_house.specs.Replies.{Reply, is_no_memory}
use Rattle.request_lines.specs.Answering.{Rule}
use Rattle.request_lines.specs.AnswerText.{answer_text}
use Rattle.request_lines.specs.Script.{command_in}
use Rattle.shared_house.specs.Calls.{IsCall}
use Rattle.shared_house.specs.PassView.{PassView}

-- ---- one line

-- a command is called with the pass, and the reply is what the call returns; a refusal is the reply itself, and no call is made
abbrev pub IsReplied : Config → Result Command Refusal → PassView → Reply → PassView → Type 0
IsReplied config (Ok command) before reply after = IsCall config command before after reply
IsReplied config (Err refusal) before reply after = (reply ≡ Err (record { at = None; refusal = refusal })) × (after ≡ before)

-- the line got this reply, on the way from one pass to the other
unfoldable pub LineReplied : Config → List ℕ → PassView → Reply → PassView → Type 0
LineReplied config line before reply after = IsReplied config (command_in config line) before reply after

-- the line got a reply that is not want of memory, and this is the reply's text
pub record LineAnswered (config : Config) (line : List ℕ) (before : PassView) (text : List ℕ) (after : PassView) : Type 0 where
  pub reply : Reply
  pub replied : LineReplied config line before reply after
  pub found_memory : is_no_memory reply ≡ false
  pub text_is : text ≡ answer_text config reply

-- memory ran out at the line: it is not replied to, or its reply is not answered
abbrev pub GivesUp : Config → List ℕ → PassView → PassView → Type 0
GivesUp config line before after = (after ≡ before) ⊎ ((reply : Reply) × LineReplied config line before reply after)

-- ---- many lines

-- the lines are answered in turn, and the text is that of their answers, one after another
abbrev pub LinesAnswered : Config → PassView → List (List ℕ) → List ℕ → PassView → Type 0
LinesAnswered config before [] text after = (text ≡ []) × (after ≡ before)
LinesAnswered config before (line ∷ lines) text after =
    (first : List ℕ) × (between : PassView) × (others : List ℕ) × LineAnswered config line before first between
    × LinesAnswered config between lines others after × (text ≡ first ++ others)

-- the rule of a platform, whose state is its pass
abbrev pub platform_rule : Config → Rule PassView
platform_rule config = record {
  answers = λ before lines text after. LinesAnswered config before lines text after;
  gives_up = λ before line after. GivesUp config line before after;
}
