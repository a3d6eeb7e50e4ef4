-- What a recovery has still to read.
use Rattle.std.specs.Prelude.{◌≡◌, ◌+◌, ◌-◌, ℕ, List, [], take, drop}
use Rattle.sqlite_disk.specs.declared.Disk.{Ghosts}
use Rattle.kept_lines.specs.File.{MayEnd, kept_in}
use Rattle.kept_lines.specs.Reading.{IsFrontOf}
use Rattle.kept_lines.specs.declared.recovery.Recovery.{Recovery}

module _ {D : Type 0} {g : Ghosts D} where
  abbrev pub disk_of : Recovery D g → D
  disk_of it = it.disk

  -- the most bytes of a line that it reads
  abbrev pub limit_of : Recovery D g → ℕ
  limit_of it = it.limit

  -- how many bytes of the file are before the next line
  abbrev pub place_of : Recovery D g → ℕ
  place_of it = it.begin + it.next

  -- the file from the next line on
  abbrev pub unread : Recovery D g → List ℕ
  unread it = drop (place_of it) (g.seen it.disk)

  -- the kept lines that it has not lent yet
  abbrev pub lines_left : Recovery D g → List (List ℕ)
  lines_left it = kept_in (unread it)

  -- the line that it lends
  abbrev pub line_of : Recovery D g → List ℕ
  line_of it = take (it.line_end - it.line) (drop it.line it.window.items)

  -- the part of the file in memory, from the next line on
  abbrev pub shown : Recovery D g → List ℕ
  shown it = drop it.next it.window.items

  -- no line is left, what is left may end a file, and it stays where it was and shows what is left
  pub record IsAtEnd (old new : Recovery D g) : Type 0 where
    pub none : lines_left old ≡ []
    pub intact : MayEnd (unread old)
    pub place : place_of new ≡ place_of old
    pub front : IsFrontOf (limit_of old) (unread old) (shown new)
