-- What a writer has taken of a text when a command ends early.
use Rattle.std.specs.Prelude.{◌≡◌, ◌⊎◌, List, ℕ, true, ◌++◌}
use Rattle.command_line.specs.declared.fault.Fault.{Fault}
use Rattle.command_line.specs.declared.fault.Fault.TheVariants as fault
use Rattle.request_lines.specs.Streams.{Writing}

-- an allocation failed, or the writer did
abbrev pub IsCutBy : {W : Type 0} → Writing W → W → Fault → Type 0
IsCutBy writing writer cause = (cause ≡ fault.NoMemory) ⊎ ((cause ≡ fault.CannotWrite) × (writing.failed writer ≡ true))

-- the writer took a beginning of the text, and nothing else
pub record IsCutOff {W : Type 0} (writing : Writing W) (text : List ℕ) (writer writer' : W) (cause : Fault) : Type 0 where
  pub written : List ℕ
  pub left : List ℕ
  pub split : text ≡ written ++ left
  pub took : writing.takes writer written writer'
  pub cut_by : IsCutBy writing writer' cause
