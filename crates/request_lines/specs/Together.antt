-- How a run over lines ends that writes the answers to the lines of a read call together.
use Rattle.std.specs.Prelude.{◌≡◌, ℕ, ◌+◌, ◌^◌, ◌≤◌, ◌⊎◌, List, ◌++◌, length, All, Result, MatchResult}
use Rattle.request_lines.specs.declared.faults.ScriptFault.{ScriptFault}
use Rattle.request_lines.specs.declared.faults.ScriptFault.TheVariants.{Read, Write, NoMemory, LineTooLong}
use Rattle.request_lines.specs.declared.faults.Count.{Count}
use Rattle.request_lines.specs.Lines.{whole_lines, IsShort}
use Rattle.request_lines.specs.Streams.{Reading, Writing}
use Rattle.request_lines.specs.Answering.{Rule, Run, Input, LinesRead, IsComplete, lines_read, AreAllAnswered, IsFault, StopsAtWrite, GivesUpAtFirst}

-- what the last read call returned, and what the calls before it returned
pub record LastCall {R : Type 0} (reading : Reading R) (reader : R) (input : Input) (reader' : R) : Type 0 where
  pub others : ℕ
  pub earlier : List ℕ
  pub last : List ℕ
  pub between : R
  pub calls_are : input.calls ≡ others + 1
  pub bytes_are : input.bytes ≡ earlier ++ last
  pub gave_earlier : reading.gives reader others earlier between
  pub gave_last : reading.gives between 1 last reader'

-- A write error in the answer to a line that has at least so many lines before it; `run.now` is the state after that line. The answerer went
-- on to `now`: it answered further lines, and nothing of their answers is written. Then it did nothing else, or memory ran out at the next.
pub record StopsAhead {A : Type 0} (rule : Rule A) (read : LinesRead) (least : ℕ) (run : Run A) (now : A) : Type 0 where
  pub stopped : StopsAtWrite rule read run
  pub further : List (List ℕ)
  pub others : List (List ℕ)
  pub middle : A
  pub unwritten : List ℕ
  pub is_behind : least ≤ length stopped.before
  pub split : stopped.others ≡ further ++ others
  pub further_complete : IsComplete read (length stopped.before + length further)
  pub each_short : All IsShort further
  pub answered : rule.answers run.now further unwritten middle
  pub left : (now ≡ middle) ⊎ (IsComplete read (length stopped.before + length further + 1) × GivesUpAtFirst rule middle others now)

-- The run stopped by a fault. A write error is in the answer to a line of the last read call, and the answerer may have gone on from there.
abbrev pub IsFaultAhead : {A R : Type 0} → Rule A → Reading R → R → R → Input → Run A → A → ScriptFault → Type 0
IsFaultAhead rule reading reader reader' input run now Read = (now ≡ run.now) × IsFault rule input run Read
IsFaultAhead rule reading reader reader' input run now (Write count) =
    (count ≡ length run.written) × (call : LastCall reading reader input reader')
    × StopsAhead rule (lines_read input) (length (whole_lines call.earlier)) run now
IsFaultAhead rule reading reader reader' input run now NoMemory = (now ≡ run.now) × IsFault rule input run NoMemory
IsFaultAhead rule reading reader reader' input run now (LineTooLong number) = (now ≡ run.now) × IsFault rule input run (LineTooLong number)

-- `HasRun` holds up to the state `left`. It is the last state `now`, except at a write error: the answerer may then be ahead of what is written.
pub record HasRunTogether {A R W : Type 0} (rule : Rule A) (reading : Reading R) (writing : Writing W) (start now : A) (reader reader' : R) (writer writer' : W) (result : Result Count ScriptFault) : Type 0 where
  pub calls : ℕ
  pub bytes : List ℕ
  pub written : List ℕ
  pub left : A
  pub few : calls ≤ 2 ^ 40
  pub gave : reading.gives reader calls bytes reader'
  pub took : writing.takes writer written writer'
  pub ended : MatchResult result
      (λ count. (now ≡ left) × AreAllAnswered rule bytes (record { start = start; written = written; now = left }) count)
      (λ fault. IsFaultAhead rule reading reader reader'
      (record { calls = calls; bytes = bytes; has_failed = reading.failed reader'; at_end = reading.at_end reader' })
      (record { start = start; written = written; now = left }) now fault)
