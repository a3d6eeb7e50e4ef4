-- What a recovery has still to read.
use Rattle.std.specs.Prelude.{◌≡◌, ◌+◌, ◌-◌, ℕ, List, [], None, take, drop}
use Rattle.sqlite_disk.specs.declared.Disk.{Ghosts}
use Rattle.kept_batches.specs.Heads.{head}
use Rattle.kept_batches.specs.Verdict.{verdict, readable, kept_in, damage_in}
use Rattle.kept_batches.specs.declared.recovery.Recovery.{Recovery}

module _ {D : Type 0} {g : Ghosts D} where
  abbrev pub disk_of : Recovery D g → D
  disk_of it = it.disk

  -- how many bytes of the file are before the next line, or before the mark after the last line of a batch
  abbrev pub place_of : Recovery D g → ℕ
  place_of it = it.begin + it.next

  -- the number of lines that it has lent
  abbrev pub count_of : Recovery D g → ℕ
  count_of it = it.lent

  -- the lines that can be read and that it has not lent yet
  abbrev pub lines_left : Recovery D g → List (List ℕ)
  lines_left it = drop it.lent (readable (verdict (g.seen it.disk)))

  -- the line that it lends
  abbrev pub line_of : Recovery D g → List ℕ
  line_of it = take (it.line_end - it.line) (drop it.line it.window.items)

  -- the head after the batches that it has read
  abbrev pub head_of : Recovery D g → List ℕ
  head_of it = it.head

  -- the bytes of the window after the shut mark
  abbrev pub torn_of : Recovery D g → List ℕ
  torn_of it = drop (it.stop + 4) it.window.items

  -- the file is not damaged, no line is left, and the head is that of its lines
  pub record IsAtEnd (old new : Recovery D g) : Type 0 where
    pub whole : damage_in (g.seen old.disk) ≡ None
    pub none : lines_left old ≡ []
    pub lent : lines_left new ≡ []
    pub head_is : head_of new ≡ head (kept_in (g.seen old.disk))
