-- When a log may be appended to.
use Rattle.std.specs.Prelude.{◌≡◌, [], ℕ, List, length, IsTrue, ⊤}
use Rattle.std.specs.List.{All}
use Rattle.sqlite_disk.specs.Disk.{Only}
use Rattle.sqlite_disk.specs.declared.Disk.{Ghosts}
use Rattle.kept_batches.specs.Heads.{head}
use Rattle.kept_batches.specs.File.{IsBatch, records, all_lines, file_of}
use Rattle.kept_batches.specs.declared.log.Log.{Log}
use Rattle.kept_batches.specs.declared.error.KeepError.{KeepError}
use Rattle.kept_batches.specs.declared.error.KeepError.TheVariants.{Disk}

-- the file is whole, its shut mark is at `end`, and `last` is the head of its lines
pub record IsLog (file : List ℕ) (end : ℕ) (last : List ℕ) : Type 0 where
  pub batches : List (List (List ℕ))
  pub are : All IsBatch batches
  pub file_is : file ≡ file_of batches
  pub end_is : end ≡ length (records [] batches)
  pub head_is : last ≡ head (all_lines batches)

-- all of the file is on the disk, no sync has failed, and if the disk returned no wrong bytes, the file is whole
pub record IsSettled {D : Type 0} (g : Ghosts D) (log : Log D) : Type 0 where
  pub durable : Only (g.seen log.disk) (g.may_leave log.disk)
  pub usable : IsTrue (g.is_usable log.disk)
  pub file : IsTrue (g.is_clean log.disk) → IsLog (g.seen log.disk) log.end log.head

-- a call on the disk has failed
abbrev pub IsDiskError : KeepError → Type 0
IsDiskError (Disk e) = ⊤
IsDiskError _ = ⊥
