-- The lines of a batch that are read and not lent.
use Rattle.std.specs.Prelude.{◌-◌, ℕ, List, take, drop}
use Rattle.sqlite_disk.specs.declared.Disk.{Ghosts}
use Rattle.kept_batches.specs.Text.{lines_in}
use Rattle.kept_batches.specs.declared.recovery.Recovery.{Recovery}

module _ {D : Type 0} {g : Ghosts D} where
  abbrev pub pending_of : Recovery D g → List (List ℕ)
  pending_of it = lines_in (take (it.stop - it.next) (drop it.next it.window.items))
