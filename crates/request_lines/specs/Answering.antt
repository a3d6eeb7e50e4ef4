-- How a run over lines ends.
use Rattle.std.specs.Prelude.{◌≡◌, ℕ, ◌+◌, ◌^◌, ◌<◌, ◌≤◌, ◌⊎◌, Bool, true, false, List, [], ◌∷◌, ◌++◌, length, take, All, Result, MatchResult}
use Rattle.request_lines.specs.declared.faults.ScriptFault.{ScriptFault}
use Rattle.request_lines.specs.declared.faults.ScriptFault.TheVariants.{Read, Write, NoMemory, LineTooLong}
use Rattle.request_lines.specs.declared.faults.Count.{Count}
use Rattle.request_lines.specs.Lines.{lines_of, whole_lines, IsShort}
use Rattle.request_lines.specs.Streams.{Reading, Writing}

-- The rule by which lines are answered. `answers start lines text now`: these lines got this text on the way from
-- `start` to `now`. `gives_up start line now`: memory ran out at this line.
pub record Rule (A : Type 0) : Type 1 where
  pub answers : A → List (List ℕ) → List ℕ → A → Type 0
  pub gives_up : A → List ℕ → A → Type 0

-- what was written on the way from one state to another
pub record Run (A : Type 0) : Type 0 where
  pub start : A
  pub written : List ℕ
  pub now : A

-- what a reader gave in so many calls, whether a call has failed, and whether there is nothing more
pub record Input : Type 1 where
  pub calls : ℕ
  pub bytes : List ℕ
  pub has_failed : Bool
  pub at_end : Type 0

-- the lines of what was read, of which newlines end the first so many, and whether there is nothing more
pub record LinesRead : Type 1 where
  pub lines : List (List ℕ)
  pub whole : ℕ
  pub at_end : Type 0

abbrev pub lines_read : Input → LinesRead
lines_read input = record { lines = lines_of input.bytes; whole = length (whole_lines input.bytes); at_end = input.at_end }

-- the line behind so many others is complete: a newline ends it, or there is nothing more
abbrev pub IsComplete : LinesRead → ℕ → Type 0
IsComplete read others = (others < read.whole) ⊎ read.at_end

-- all lines of the bytes are answered, and counted
pub record AreAllAnswered {A : Type 0} (rule : Rule A) (bytes : List ℕ) (run : Run A) (count : Count) : Type 0 where
  pub answered : rule.answers run.start (lines_of bytes) run.written run.now
  pub each_short : All IsShort (lines_of bytes)
  pub lines_is : count.lines ≡ length (lines_of bytes)
  pub bytes_is : count.bytes ≡ length bytes

-- the lines that a newline ends are answered, and the reader failed or was read as often as it may be
pub record StopsAtRead {A : Type 0} (rule : Rule A) (input : Input) (run : Run A) : Type 0 where
  pub answered : rule.answers run.start (whole_lines input.bytes) run.written run.now
  pub each_short : All IsShort (whole_lines input.bytes)
  pub cause : (input.has_failed ≡ true) ⊎ (input.calls ≡ 2 ^ 40)

-- the lines before one are answered, that one is complete, and of its answer only the first bytes are written
pub record StopsAtWrite {A : Type 0} (rule : Rule A) (read : LinesRead) (run : Run A) : Type 0 where
  pub before : List (List ℕ)
  pub line : List ℕ
  pub others : List (List ℕ)
  pub middle : A
  pub text : List ℕ
  pub answer : List ℕ
  pub sent : ℕ
  pub split : read.lines ≡ before ++ line ∷ others
  pub is_complete : IsComplete read (length before)
  pub each_short : All IsShort (before ++ line ∷ [])
  pub answered : rule.answers run.start before text middle
  pub answered_last : rule.answers middle (line ∷ []) answer run.now
  pub sent_is_less : sent < length answer
  pub written_is : run.written ≡ text ++ take sent answer

-- memory ran out at the first of these lines
abbrev pub GivesUpAtFirst : {A : Type 0} → Rule A → A → List (List ℕ) → A → Type 0
GivesUpAtFirst rule middle [] now = ⊥
GivesUpAtFirst rule middle (line ∷ others) now = rule.gives_up middle line now

-- the complete lines before some point are answered, and nothing else is done, or memory ran out at the next, which is
-- complete too
pub record StopsForMemory {A : Type 0} (rule : Rule A) (read : LinesRead) (run : Run A) : Type 0 where
  pub before : List (List ℕ)
  pub others : List (List ℕ)
  pub middle : A
  pub split : read.lines ≡ before ++ others
  pub before_complete : (place : ℕ) → place < length before → IsComplete read place
  pub each_short : All IsShort before
  pub answered : rule.answers run.start before run.written middle
  pub left : (run.now ≡ middle) ⊎ (IsComplete read (length before) × GivesUpAtFirst rule middle others run.now)

-- the lines before one that is too long are answered, and that one has this number, from 1
pub record StopsAtLongLine {A : Type 0} (rule : Rule A) (lines : List (List ℕ)) (number : ℕ) (run : Run A) : Type 0 where
  pub before : List (List ℕ)
  pub line : List ℕ
  pub others : List (List ℕ)
  pub split : lines ≡ before ++ line ∷ others
  pub number_is : number ≡ length before + 1
  pub each_short : All IsShort before
  pub is_long : 1048576 < length line
  pub answered : rule.answers run.start before run.written run.now

-- the run stopped by a fault
abbrev pub IsFault : {A : Type 0} → Rule A → Input → Run A → ScriptFault → Type 0
IsFault rule input run Read = StopsAtRead rule input run
IsFault rule input run (Write count) = (count ≡ length run.written) × StopsAtWrite rule (lines_read input) run
IsFault rule input run NoMemory = StopsForMemory rule (lines_read input) run
IsFault rule input run (LineTooLong number) = StopsAtLongLine rule (lines_of input.bytes) number run

-- `bytes` came from `calls` reads, and `written` answers all their lines, or those before the error
abbrev pub HasRun : {A R W : Type 0} → Rule A → Reading R → Writing W → A → A → R → R → W → W → Result Count ScriptFault → Type 0
HasRun rule reading writing start now reader reader' writer writer' result =
    (calls : ℕ) × (bytes : List ℕ) × (written : List ℕ) × (calls ≤ 2 ^ 40)
    × reading.gives reader calls bytes reader' × writing.takes writer written writer'
    × MatchResult result
    (λ count. AreAllAnswered rule bytes (record { start = start; written = written; now = now }) count)
    (λ fault. IsFault rule
    (record { calls = calls; bytes = bytes; has_failed = reading.failed reader'; at_end = reading.at_end reader' })
    (record { start = start; written = written; now = now }) fault)

abbrev pub is_read_fault : ScriptFault → Bool
is_read_fault Read = true
is_read_fault (Write count) = false
is_read_fault NoMemory = false
is_read_fault (LineTooLong number) = false

abbrev pub is_write_fault : ScriptFault → Bool
is_write_fault Read = false
is_write_fault (Write count) = true
is_write_fault NoMemory = false
is_write_fault (LineTooLong number) = false
