-- A store as it begins or goes on.
use Rattle.std.specs.Prelude.{◌≡◌, ◌⊎◌, ◌≤◌, ◌+◌, ℕ, List, [], ◌∷◌, None, length, ⊤}
use Rattle.kept_batches.specs.Reading.{IsNotTorn, IsTornAt}
use Rattle.kept_batches.specs.Text.{marked}
use Rattle.kept_batches.specs.Verdict.{damage_in, kept_in}
use Rattle.kept_answers.specs.Faults.{IsOtherCount}
use Rattle.kept_answers.specs.declared.fault.KeepFault.TheVariants.{Disk, Full}
use Rattle.kept_house.specs.declared.fault.StoreFault.{StoreFault}
use Rattle.kept_house.specs.declared.fault.StoreFault.TheVariants.{Keep}
use Rattle.kept_house.specs.Record.{HasConfig, first_record, on_one_line}

-- what a store keeps, once it has begun, and its configuration: an empty one begins with the record of this program and the given
-- configuration; another has its record
abbrev pub HasBegun : List ℕ → List ℕ → List (List ℕ) → List (List ℕ) → List ℕ → Type 0
HasBegun program given [] lines config = (lines ≡ first_record program given ∷ []) × (config ≡ on_one_line given)
HasBegun program given (first ∷ before) lines config = (lines ≡ first ∷ before) × HasConfig first config

-- the store is as it was, or it was empty and has its record alone
abbrev pub IsAtMostBegun : List ℕ → List ℕ → List (List ℕ) → List ℕ → Type 0
IsAtMostBegun program given old file = (kept_in file ≡ old) ⊎ ((old ≡ []) × (kept_in file ≡ first_record program given ∷ []))

-- no bytes come after the last mark, or no more than so many
abbrev pub EndsWithin : ℕ → List ℕ → Type 0
EndsWithin most file = IsNotTorn file ⊎ ∥ ((at : ℕ) × (bytes : List ℕ) × IsTornAt file at bytes × (length bytes ≤ most)) ∥₁

-- the file keeps no line and is not damaged, and after its last mark it has no more bytes than a crash leaves of a store that begins
-- with this record: 75 before the record's line, the line with its `+` and its newline, and a mark
pub record IsUnbegun (first file : List ℕ) : Type 0 where
  pub none : kept_in file ≡ []
  pub whole : damage_in file ≡ None
  pub within : EndsWithin (79 + length (marked (first ∷ []))) file

-- a call on the disk has failed, or the file has the most bytes that one may have
abbrev pub IsDiskFault : StoreFault → Type 0
IsDiskFault (Keep (Disk cause)) = ⊤
IsDiskFault (Keep Full) = ⊤
IsDiskFault _ = ⊥

-- the store keeps another number of lines than the client's answers allow
abbrev pub IsOtherLines : StoreFault → Type 0
IsOtherLines (Keep cause) = IsOtherCount cause
IsOtherLines _ = ⊥
