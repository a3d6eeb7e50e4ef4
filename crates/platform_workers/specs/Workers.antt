-- What workers did with their passes, readers and writers.
use Rattle.std.specs.Prelude.{◌≡◌, ℕ, ◌^◌, ◌≤◌, true, false, List, [], ◌∷◌, Result, Ok, Err}
use Rattle.ocpi_types.specs.declared.config.Config.{Config}
use Rattle.request_lines.specs.declared.faults.Count.{Count}
use Rattle.request_lines.specs.declared.faults.ScriptFault.{ScriptFault}
use Rattle.request_lines.specs.Answering.{AreAllAnswered, Input, IsFault, Run, is_read_fault, is_write_fault}
use Rattle.request_lines.specs.Streams.{Reading, Writing}
use Rattle.shared_house.specs.PassView.{PassView}
use Rattle.platform_workers.specs.declared.jobs.WorkerEnd.{WorkerEnd}
use Rattle.platform_workers.specs.declared.jobs.WorkerEnd.TheVariants.{Done, Failed}
use Rattle.platform_workers.specs.Platforms.{platform_rule}

-- what readers and writers state of themselves
pub record Streams (I O : Type 0) : Type 1 where
  pub reading : Reading I
  pub writing : Writing O

abbrev pub streams_of : {I O : Type 0} → Reading I → Writing O → Streams I O
streams_of reading writing = record { reading = reading; writing = writing }

-- what a worker did: its pass, its reader and its writer before and after, how many calls of the reader gave which bytes, and
-- what was written
pub record Work (I O : Type 0) : Type 0 where
  pub pass : PassView
  pub pass' : PassView
  pub reader : I
  pub reader' : I
  pub writer : O
  pub writer' : O
  pub calls : ℕ
  pub bytes : List ℕ
  pub written : List ℕ

-- the pass on its way, with what was written
abbrev pub run_of : {I O : Type 0} → Work I O → Run PassView
run_of work = record { start = work.pass; written = work.written; now = work.pass' }

-- what the reader gave
abbrev pub input_of : {I O : Type 0} → Streams I O → Work I O → Input
input_of streams work = record {
  calls = work.calls;
  bytes = work.bytes;
  has_failed = streams.reading.failed work.reader';
  at_end = streams.reading.at_end work.reader';
}

-- the reader gave all its bytes, the answers to all their lines are written, and neither failed
pub record IsDone {I O : Type 0} (streams : Streams I O) (config : Config) (work : Work I O) (count : Count) : Type 0 where
  pub answered : AreAllAnswered (platform_rule config) work.bytes (run_of work) count
  pub ended : streams.reading.at_end work.reader'
  pub reader_kept : streams.reading.failed work.reader' ≡ streams.reading.failed work.reader
  pub writer_kept : streams.writing.failed work.writer' ≡ streams.writing.failed work.writer

-- the worker stopped by this fault; the reader fails only at a read fault, and the writer just at a write fault
pub record HasFailed {I O : Type 0} (streams : Streams I O) (config : Config) (work : Work I O) (fault : ScriptFault) : Type 0 where
  pub fails : IsFault (platform_rule config) (input_of streams work) (run_of work) fault
  pub reader_kept : is_read_fault fault ≡ false → streams.reading.failed work.reader' ≡ streams.reading.failed work.reader
  pub writer_failed_is : is_write_fault fault ≡ true → streams.writing.failed work.writer' ≡ true
  pub writer_kept : is_write_fault fault ≡ false → streams.writing.failed work.writer' ≡ streams.writing.failed work.writer

-- how the work ended
abbrev pub HasEnded : {I O : Type 0} → Streams I O → Config → Work I O → WorkerEnd → Type 0
HasEnded streams config work (Done count) = IsDone streams config work count
HasEnded streams config work (Failed fault) = HasFailed streams config work fault

abbrev pub end_of : Result Count ScriptFault → WorkerEnd
end_of (Ok count) = Done count
end_of (Err fault) = Failed fault

-- a worker ran with this pass and this pair, left that pass, and ended so
pub record WorkerRan {I O : Type 0} (streams : Streams I O) (config : Config) (pass : PassView) (pair : I × O) (pass' : PassView) (end : WorkerEnd) : Type 0 where
  pub reader' : I
  pub writer' : O
  pub calls : ℕ
  pub bytes : List ℕ
  pub written : List ℕ
  pub number_kept : pass'.number ≡ pass.number
  pub few : calls ≤ 2 ^ 40
  pub gave : streams.reading.gives pair.0 calls bytes reader'
  pub took : streams.writing.takes pair.1 written writer'
  pub ended : HasEnded streams config
      (record { pass = pass; pass' = pass'; reader = pair.0; reader' = reader'; writer = pair.1; writer' = writer'; calls = calls; bytes = bytes; written = written }) end

-- a worker ran for each pass with the pair in its place, and these are the passes that they left, each with how its worker ended
abbrev pub EachRan : {I O : Type 0} → Streams I O → Config → List PassView → List (I × O) → List (PassView × WorkerEnd) → Type 0
EachRan streams config [] pairs ended = (pairs ≡ []) × (ended ≡ [])
EachRan streams config (pass ∷ passes) [] ended = ⊥
EachRan streams config (pass ∷ passes) (pair ∷ pairs) [] = ⊥
EachRan streams config (pass ∷ passes) (pair ∷ pairs) (left ∷ ended) =
    WorkerRan streams config pass pair left.0 left.1 × EachRan streams config passes pairs ended
