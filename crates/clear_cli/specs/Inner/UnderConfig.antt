-- A script, or a schedule, whose configuration is read.
use Rattle.std.specs.Prelude.{◌≡◌, ◌⊎◌, ℕ, List, Result, MatchResult}
use Rattle.std.specs.Borrow.{Bor}
use Rattle.ocpi_types.specs.declared.config.Config.{Config}
use Rattle.house_core.specs.declared.finished.Finished.{Finished}
use Rattle.request_lines.specs.declared.faults.ScriptFault.{ScriptFault}
use Rattle.request_lines.specs.Streams.{Writing}
use Rattle.command_line.specs.declared.fault.Fault.{Fault}
use Rattle.command_line.specs.declared.fault.Fault.TheVariants.{NoMemory}
use Rattle.clear_cli.specs.declared.schedule_text.WriteFault.{WriteFault}
use Rattle.command_line.specs.Fault.{script_fault}
use Rattle.clear_cli.specs.Fault.{write_fault}
use Rattle.clear_cli.specs.Schedule.{Fails as ScheduleFails, FailsUnder as ScheduleFailsUnder, FileStreams, IsCutShort as ScheduleCutShort, IsRead, IsReplayed, IsWritten}
use Rattle.clear_cli.specs.ScheduleFile.{PlainSchedule}
use Rattle.clear_cli.specs.ScheduleWritten.{FailsToWrite}
use Rattle.clear_cli.specs.Script.{Fails as ScriptFails, IsAnswered, IsDone, IsStopped, IsUntouched, Streams}

-- it ended with this fault
abbrev pub FailsUnder : {R W : Type 0} → Streams R W → Config → Fault → Type 0
FailsUnder streams config fault =
    (IsUntouched streams × (fault ≡ NoMemory)) ⊎ ((cause : ScriptFault) × (fault ≡ script_fault cause) × IsStopped streams config cause)

-- how a script ended under this configuration
abbrev pub AnswersUnder : {R W A : Type 0} → Streams R W → Config → Result A Fault → Type 0
AnswersUnder streams config result = MatchResult result (λ _. IsAnswered streams config) (λ fault. FailsUnder streams config fault)

-- how a script ended under the configuration in this file
abbrev pub Answers : {R W A : Type 0} → Streams R W → List ℕ → Result A Fault → Type 0
Answers streams file result = MatchResult result (λ _. IsDone streams file) (λ fault. ScriptFails streams file fault)

-- the file of a schedule is replayed
pub record IsReplayedUnder {R W : Type 0} (streams : FileStreams R W) (config : Config) : Type 0 where
  pub schedule : PlainSchedule
  pub read : IsRead streams config schedule
  pub written : IsWritten streams.writing config schedule streams.writer streams.writer'

-- how the replay ended under this configuration
abbrev pub ReplaysUnder : {R W A : Type 0} → FileStreams R W → Bor (List ℕ) → Config → Result A Fault → Type 0
ReplaysUnder streams path config result = MatchResult result (λ _. IsReplayedUnder streams config) (λ fault. ScheduleFailsUnder streams path config fault)

-- how the replay ended under the configuration in this file
abbrev pub Replays : {R W A : Type 0} → FileStreams R W → Bor (List ℕ) → List ℕ → Result A Fault → Type 0
Replays streams path file result = MatchResult result (λ _. IsReplayed streams file) (λ fault. ScheduleFails streams path file fault)

-- not all lines of the calls that ended are written, for this fault
abbrev pub IsCutFor : {W : Type 0} → Writing W → Config → List Finished → W → W → Fault → Type 0
IsCutFor writing config finished writer writer' fault =
    (cause : WriteFault) × (fault ≡ write_fault cause) × FailsToWrite writing config finished writer writer' cause

-- a schedule is not replayed, or not all lines are written
abbrev pub IsLeftUnwritten : {W : Type 0} → Writing W → Config → PlainSchedule → W → W → Fault → Type 0
IsLeftUnwritten writing config schedule writer writer' fault =
    ((writer' ≡ writer) × (fault ≡ NoMemory)) ⊎ ScheduleCutShort writing config schedule writer writer' fault
