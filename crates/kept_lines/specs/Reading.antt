-- Calls that only read.
use Rattle.std.specs.Prelude.{◌≡◌, ◌+◌, ◌≤◌, ℕ, List, IsTrue, length, take, ⊤}
use Rattle.sqlite_disk.specs.declared.Disk.{Ghosts}
use Rattle.kept_lines.specs.declared.error.KeepError.{KeepError}
use Rattle.kept_lines.specs.declared.error.KeepError.TheVariants.{Disk}

-- the file is as before, and so is what a crash may leave
pub record OnlyReads {D : Type 0} (g : Ghosts D) (old new : D) : Type 0 where
  pub seen : g.seen new ≡ g.seen old
  pub crash : (c : List ℕ) → g.may_leave new c → g.may_leave old c
  pub usable : IsTrue (g.is_usable new)
  pub clean : IsTrue (g.is_clean new) → IsTrue (g.is_clean old)

-- a text is what is left, or the front of it that is longer than a line may be
pub record IsFrontOf (limit : ℕ) (left text : List ℕ) : Type 0 where
  pub front : take (length text) left ≡ text
  pub whole : length text ≤ limit + 1 → text ≡ left

-- a call on the disk has failed
abbrev pub IsDiskError : KeepError → Type 0
IsDiskError (Disk e) = ⊤
IsDiskError _ = ⊥
