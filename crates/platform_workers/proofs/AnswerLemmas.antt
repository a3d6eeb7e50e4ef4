-- One line as the lines of a pass.
use Rattle.std.proofs.Common.{◌≡◌, ℕ, false, List, [], ◌∷◌, refl, sym, append-nil}
use Rattle.ocpi_types.specs.declared.config.Config.{Config}
use Rattle.plain_house.specs.Replies.{Reply, is_no_memory}
use Rattle.request_lines.specs.AnswerText.{answer_text}
use Rattle.shared_house.specs.PassView.{PassView}
use Rattle.platform_workers.specs.Platforms.{LineReplied, LinesAnswered}

pub one_answered : (config : Config) (line : List ℕ) (before after : PassView) (reply : Reply) (text : List ℕ) → LineReplied config line before reply after → is_no_memory reply ≡ false → text ≡ answer_text config reply
    → LinesAnswered config before (line ∷ []) text after
one_answered config line before after reply text replied found same =
    (text, after, [], record { reply = reply; replied = replied; found_memory = found; text_is = same }, (refl, refl), sym (append-nil text))
