-- Why a kept stream ends early.
use Rattle.std.specs.Prelude.{◌≡◌, ⊤, ℕ, List, [], None, Some}
use Rattle.kept_batches.specs.Verdict.{damage_in, kept_in}
use Rattle.kept_batches.specs.declared.error.KeepError.{KeepError}
use Rattle.kept_batches.specs.declared.error.KeepError.TheVariants as error
use Rattle.kept_answers.specs.declared.fault.KeepFault.{KeepFault}
use Rattle.kept_answers.specs.declared.fault.KeepFault.TheVariants.{NoMemory, Disk, Full, Damaged, FewerLines, HasLines, NoStore}

-- the fault that an error of the log is
abbrev pub of_disk : KeepError → KeepFault
of_disk error.Memory = NoMemory
of_disk (error.Disk cause) = Disk cause
of_disk error.Full = Full
of_disk (error.Damaged at) = Damaged at

-- the store keeps another number of lines than the client's answers allow
abbrev pub IsOtherCount : KeepFault → Type 0
IsOtherCount FewerLines = ⊤
IsOtherCount HasLines = ⊤
IsOtherCount _ = ⊥

-- the fault is of what the store has: of the number of its lines, of its first record, or of damage
abbrev pub IsOfStore : KeepFault → Type 0
IsOfStore FewerLines = ⊤
IsOfStore HasLines = ⊤
IsOfStore NoStore = ⊤
IsOfStore (Damaged at) = ⊤
IsOfStore _ = ⊥

-- where the fault says that the file is damaged, or that it has no first record, that is so
pub record TellsOf (file : List ℕ) (fault : KeepFault) : Type 0 where
  pub damaged : (at : ℕ) → fault ≡ Damaged at → damage_in file ≡ Some at
  pub no_line : fault ≡ NoStore → (kept_in file ≡ []) × (damage_in file ≡ None)
