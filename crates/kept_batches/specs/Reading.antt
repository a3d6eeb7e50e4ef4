-- Calls that only read.
use Rattle.std.specs.Prelude.{◌≡◌, ◌≤◌, ◌<◌, ℕ, List, None, IsTrue, length, take, drop}
use Rattle.sqlite_disk.specs.declared.Disk.{Ghosts}
use Rattle.kept_batches.specs.File.{IsTorn, file_of}
use Rattle.kept_batches.specs.Heads.{head}
use Rattle.kept_batches.specs.Verdict.{verdict, readable, kept_in, damage_in}

-- the file is as before, and so is what a crash may leave
pub record OnlyReads {D : Type 0} (g : Ghosts D) (old new : D) : Type 0 where
  pub seen : g.seen new ≡ g.seen old
  pub crash : (c : List ℕ) → g.may_leave new c → g.may_leave old c
  pub usable : IsTrue (g.is_usable new)
  pub clean : IsTrue (g.is_clean new) → IsTrue (g.is_clean old)

-- both keep the same lines, or are damaged at the same byte
abbrev pub AreFoundAlike : List ℕ → List ℕ → Type 0
AreFoundAlike one other = (kept_in one ≡ kept_in other) × (damage_in one ≡ damage_in other)

-- after the shut mark of whole batches, from this place on, the file has these bytes, which were never acknowledged
pub record IsTornAt (file : List ℕ) (at : ℕ) (bytes : List ℕ) : Type 0 where
  pub batches : List (List (List ℕ))
  pub torn : IsTorn batches file
  pub at_is : at ≡ length (file_of batches)
  pub bytes_are : bytes ≡ drop at file

-- no such bytes
abbrev pub IsNotTorn : List ℕ → Type 0
IsNotTorn file = (batches : List (List (List ℕ))) → IsTorn batches file → ⊥

-- so many lines can be read, and this is the head after them
pub record IsHeadAt (file : List ℕ) (count : ℕ) (last : List ℕ) : Type 0 where
  pub within : count ≤ length (readable (verdict file))
  pub is : last ≡ head (take count (readable (verdict file)))

-- the file is not damaged, and keeps fewer lines
pub record HasFewer (file : List ℕ) (count : ℕ) : Type 0 where
  pub whole : damage_in file ≡ None
  pub fewer : length (kept_in file) < count
