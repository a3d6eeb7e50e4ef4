-- A kept stream while it goes on.
use Rattle.std.specs.Prelude.{◌≡◌, ℕ, List, ◌++◌}
use Rattle.request_lines.specs.Answering.{Rule}
use Rattle.request_lines.specs.Lines.{AreLines}
use Rattle.kept_batches.specs.Verdict.{kept_in}

-- of the bytes that were read the whole lines are kept and answered, and a part of the next is pending
pub record IsUnderWay {A : Type 0} (rule : Rule A) (start now : A) (file : List ℕ) (is_clean : Type 0) (before : List (List ℕ)) (read written pending : List ℕ) : Type 0 where
  pub whole : List (List ℕ)
  pub lines : AreLines read whole pending
  pub answers : rule.answers start whole written now
  pub kept : is_clean → kept_in file ≡ before ++ whole
