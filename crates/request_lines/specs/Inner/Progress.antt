-- A run over lines while it goes on.
use Rattle.std.specs.Prelude.{◌≡◌, ◌==◌, ℕ, ◌+◌, ◌<◌, true, false, List, [], ◌∷◌, ◌++◌, length, if◌then◌else◌, All}
use Rattle.request_lines.specs.declared.progress.Progress.{Progress}
use Rattle.request_lines.specs.declared.faults.ScriptFault.{ScriptFault}
use Rattle.request_lines.specs.declared.faults.ScriptFault.TheVariants.{Read, Write, NoMemory, LineTooLong}
use Rattle.request_lines.specs.Lines.{newline, last_line, IsShort}
use Rattle.request_lines.specs.Answering.{Rule, Run, LinesRead, StopsAtWrite, StopsForMemory, StopsAtLongLine, is_write_fault}
use Rattle.request_lines.specs.Streams.{Writing}

-- of a stream of which these bytes of a line have come: its lines, its whole lines, and what has come of the next
abbrev pub lines_from : List ℕ → List ℕ → List (List ℕ)
lines_from part [] = last_line part
lines_from part (b ∷ bytes) = if b == newline then part ∷ lines_from [] bytes else lines_from (part ++ b ∷ []) bytes

abbrev pub whole_from : List ℕ → List ℕ → List (List ℕ)
whole_from part [] = []
whole_from part (b ∷ bytes) = if b == newline then part ∷ whole_from [] bytes else whole_from (part ++ b ∷ []) bytes

abbrev pub rest_from : List ℕ → List ℕ → List ℕ
rest_from part [] = part
rest_from part (b ∷ bytes) = if b == newline then rest_from [] bytes else rest_from (part ++ b ∷ []) bytes

-- the lines of these bytes behind the part of one, when more may come
abbrev pub read_from : List ℕ → List ℕ → LinesRead
read_from part bytes = record { lines = lines_from part bytes; whole = length (whole_from part bytes); at_end = ⊥ }

-- a line that a newline ends, and others
abbrev pub read_line : List ℕ → List (List ℕ) → LinesRead
read_line line others = record { lines = line ∷ others; whole = 1; at_end = ⊥ }

-- what has come of a last line, at the end
abbrev pub read_last : List ℕ → LinesRead
read_last part = record { lines = last_line part; whole = 0; at_end = Unit {0} }

-- how lines may stop, after so many earlier lines and written bytes
abbrev pub Stops : {A : Type 0} → Rule A → LinesRead → ℕ → ℕ → ScriptFault → Run A → Type 0
Stops rule read lines size Read run = ⊥
Stops rule read lines size (Write count) run = (count ≡ size + length run.written) × StopsAtWrite rule read run
Stops rule read lines size NoMemory run = StopsForMemory rule read run
Stops rule read lines size (LineTooLong number) run = (place : ℕ) × (number ≡ lines + place) × StopsAtLongLine rule read.lines place run

-- why this much of a line could not be kept, after so many lines
abbrev pub CannotKeep : List ℕ → ℕ → ScriptFault → Type 0
CannotKeep line lines Read = ⊥
CannotKeep line lines (Write count) = ⊥
CannotKeep line lines NoMemory = Unit {0}
CannotKeep line lines (LineTooLong number) = (number ≡ lines + 1) × (1048576 < length line)

-- what changes from line to line
pub record State (A W : Type 0) : Type 0 where
  pub answerer : A
  pub writer : W
  pub progress : Progress

abbrev pub state : {A W : Type 0} → A → W → Progress → State A W
state answerer writer progress = record { answerer = answerer; writer = writer; progress = progress }

-- these lines are answered and counted
pub record HasAnswered {A W : Type 0} (rule : Rule A) (writing : Writing W) (lines : List (List ℕ)) (old new : State A W) : Type 0 where
  pub text : List ℕ
  pub taken : writing.takes old.writer text new.writer
  pub answered : rule.answers old.answerer lines text new.answerer
  pub written_is : new.progress.written ≡ old.progress.written + length text
  pub lines_are : new.progress.lines ≡ old.progress.lines + length lines
  pub unfailed : writing.failed new.writer ≡ writing.failed old.writer

-- these lines stopped at a fault
pub record HasStopped {A W : Type 0} (rule : Rule A) (writing : Writing W) (read : LinesRead) (old new : State A W) (fault : ScriptFault) : Type 0 where
  pub text : List ℕ
  pub taken : writing.takes old.writer text new.writer
  pub stops : Stops rule read old.progress.lines old.progress.written fault (record { start = old.answerer; written = text; now = new.answerer })
  pub has_failed : is_write_fault fault ≡ true → writing.failed new.writer ≡ true
  pub unfailed : is_write_fault fault ≡ false → writing.failed new.writer ≡ writing.failed old.writer
  pub counted : is_write_fault fault ≡ false → new.progress.written ≡ old.progress.written + length text

-- these bytes are read, their whole lines are answered, and this is what has come of the next
pub record IsUnderWay {A : Type 0} (rule : Rule A) (bytes : List ℕ) (run : Run A) (part : List ℕ) (progress : Progress) : Type 0 where
  pub answered : rule.answers run.start (whole_from [] bytes) run.written run.now
  pub part_is : part ≡ rest_from [] bytes
  pub short : IsShort part
  pub each_short : All IsShort (whole_from [] bytes)
  pub lines_are : progress.lines ≡ length (whole_from [] bytes)
  pub written_is : progress.written ≡ length run.written
