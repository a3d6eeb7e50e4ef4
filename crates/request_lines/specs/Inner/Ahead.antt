-- A run while it goes on that writes the answers to several lines together.
use Rattle.std.specs.Prelude.{◌≡◌, ℕ, ◌+◌, true, false, List, length}
use Rattle.request_lines.specs.declared.faults.ScriptFault.{ScriptFault}
use Rattle.request_lines.specs.declared.faults.ScriptFault.TheVariants.{Read, Write, NoMemory, LineTooLong}
use Rattle.request_lines.specs.Answering.{Rule, Run, LinesRead, is_write_fault}
use Rattle.request_lines.specs.Streams.{Writing}
use Rattle.request_lines.specs.Together.{StopsAhead}
use Rattle.request_lines.specs.Inner.Progress.{State, Stops}

-- how lines may stop, after so many earlier lines and written bytes
abbrev pub StopsTogether : {A : Type 0} → Rule A → LinesRead → ℕ → ℕ → ScriptFault → Run A → A → Type 0
StopsTogether rule read lines size Read run now = ⊥
StopsTogether rule read lines size (Write count) run now = (count ≡ size + length run.written) × StopsAhead rule read 0 run now
StopsTogether rule read lines size NoMemory run now = (now ≡ run.now) × Stops rule read lines size NoMemory run
StopsTogether rule read lines size (LineTooLong number) run now = (now ≡ run.now) × Stops rule read lines size (LineTooLong number) run

-- these lines stopped at a fault, with all that is answered before it written, or what the writer took of it
pub record HasStoppedTogether {A W : Type 0} (rule : Rule A) (writing : Writing W) (read : LinesRead) (old new : State A W) (fault : ScriptFault) : Type 0 where
  pub text : List ℕ
  pub left : A
  pub taken : writing.takes old.writer text new.writer
  pub stops : StopsTogether rule read old.progress.lines old.progress.written fault (record { start = old.answerer; written = text; now = left }) new.answerer
  pub has_failed : is_write_fault fault ≡ true → writing.failed new.writer ≡ true
  pub unfailed : is_write_fault fault ≡ false → writing.failed new.writer ≡ writing.failed old.writer
