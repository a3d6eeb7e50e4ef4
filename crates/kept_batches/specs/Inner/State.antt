-- Where a recovery is in a file.
use Rattle.std.specs.Prelude.{◌≡◌, ◌+◌, ◌<◌, ◌^◌, ⊤, ℕ, Bool, List, [], ◌∷◌, ◌++◌, Option, None, Some, length, drop}
use Rattle.std.specs.List.{All}
use Rattle.kept_batches.specs.Heads.{head}
use Rattle.kept_batches.specs.File.{IsBatch, IsTorn, IsUnbegun, records, all_lines, file_of}
use Rattle.kept_batches.specs.Reading.{AreFoundAlike}
use Rattle.kept_batches.specs.Log.{IsLog}
use Rattle.kept_batches.specs.Inner.Writes.{IsHalved}
use Rattle.kept_batches.specs.declared.end.End.{End}
use Rattle.kept_batches.specs.declared.end.End.TheVariants.{Whole, Torn, Unmarked, Unbegun}

-- what comes after these batches, and may be repaired
pub record IsUnmarkedAfter (mark : ℕ) (is_shut : Bool) (file : List ℕ) (batches : List (List (List ℕ))) : Type 0 where
  pub first : List (List (List ℕ))
  pub batch : List (List ℕ)
  pub halved : IsHalved file mark is_shut first batch
  pub batches_are : batches ≡ first ++ batch ∷ []

pub record IsUnbegunAfter (file : List ℕ) (batches : List (List (List ℕ))) : Type 0 where
  pub unbegun : IsUnbegun file
  pub none : batches ≡ []

abbrev pub ComesAfter : Option End → List ℕ → ℕ → List (List (List ℕ)) → Type 0
ComesAfter None file place batches = file ≡ records [] batches ++ drop place file
ComesAfter (Some Whole) file place batches = file ≡ file_of batches
ComesAfter (Some Torn) file place batches = IsTorn batches file
ComesAfter (Some (Unmarked mark is_shut)) file place batches = IsUnmarkedAfter mark is_shut file batches
ComesAfter (Some Unbegun) file place batches = IsUnbegunAfter file batches

-- the batches before the place are whole, and `last` is the head of their lines
pub record IsRead (end : Option End) (file : List ℕ) (place : ℕ) (last : List ℕ) (lines : List (List ℕ)) : Type 0 where
  pub batches : List (List (List ℕ))
  pub are : All IsBatch batches
  pub place_is : place ≡ length (records [] batches)
  pub last_is : last ≡ head lines
  pub lines_are : lines ≡ all_lines batches
  pub after : ComesAfter end file place batches

-- and of their lines, `count` are lent and these are not
pub record IsLent (count : ℕ) (pending lines : List (List ℕ)) : Type 0 where
  pub lent : List (List ℕ)
  pub lines_are : lines ≡ lent ++ pending
  pub count_is : count ≡ length lent

pub record IsState (end : Option End) (file : List ℕ) (place : ℕ) (last : List ℕ) (count : ℕ) (pending : List (List ℕ)) : Type 0 where
  pub lines : List (List ℕ)
  pub at : IsRead end file place last lines
  pub lent : IsLent count pending lines

-- a repair leaves the file of the same batches
abbrev pub IsRepaired : End → List ℕ → ℕ → List ℕ → Type 0
IsRepaired end old place new = (last : List ℕ) (lines : List (List ℕ)) → IsRead (Some end) old place last lines → IsLog new place last × AreFoundAlike new old

-- and so does what a crash leaves meanwhile
abbrev pub KeepsTheSame : End → List ℕ → ℕ → (List ℕ → Type 0) → Type 0
KeepsTheSame end old place may_leave = (last : List ℕ) (lines : List (List ℕ)) → IsRead (Some end) old place last lines → (c : List ℕ) → may_leave c → AreFoundAlike c old

-- the places that a repair writes at are numbers of the code
abbrev pub MarkFits : End → ℕ → Type 0
MarkFits Whole place = ⊤
MarkFits Torn place = place + 4 < 2 ^ 64
MarkFits (Unmarked mark is_shut) place = mark + 2 < 2 ^ 64
MarkFits Unbegun place = ⊤

abbrev pub EndFits : Option End → ℕ → Type 0
EndFits None place = ⊤
EndFits (Some end) place = MarkFits end place
