-- How the program replays the file of a schedule.
use Rattle.std.specs.Prelude.{◌≡◌, ◌≢◌, ◌⊎◌, ◌≤◌, ◌^◌, ℕ, List, Option, Some, None, Ok, Err}
use Rattle.std.specs.Borrow.{Bor}
use Rattle.ocpi_types.specs.declared.config.Config.{Config}
use Rattle.plain_house.specs.declared.event.Event.{Event}
use Rattle.house_core.specs.declared.finished.Finished.{Finished}
use Rattle.house_core.specs.OneHouse.{KeepsRules, OneHouse}
use Rattle.request_lines.specs.Lines.{lines_of}
use Rattle.request_lines.specs.Streams.{Reading, Writing}
use Rattle.command_line.specs.declared.fault.Fault.{Fault}
use Rattle.command_line.specs.declared.fault.Fault.TheVariants.{CannotRead, NoMemory, ScheduleLine}
use Rattle.clear_cli.specs.declared.schedule_file.ScheduleFault.{ScheduleFault}
use Rattle.clear_cli.specs.declared.schedule_file.ScheduleFault.TheVariants as read
use Rattle.clear_cli.specs.declared.schedule_text.WriteFault.{WriteFault}
use Rattle.clear_cli.specs.Fault.{write_fault}
use Rattle.clear_cli.specs.ScheduleFile.{IsSchedule, PlainSchedule}
use Rattle.clear_cli.specs.ScheduleRead.{FailsToRead}
use Rattle.clear_cli.specs.ScheduleText.{trace_text}
use Rattle.clear_cli.specs.ScheduleWritten.{FailsToWrite}
use Rattle.clear_cli.specs.Script.{config_or_fault}

-- a reader, where the file could be opened, and a writer, before and after, and what they state of themselves
pub record FileStreams (R W : Type 0) : Type 1 where
  pub reading : Reading R
  pub writing : Writing W
  pub given : Option R
  pub writer : W
  pub writer' : W

abbrev pub file_streams_of : {R W : Type 0} → Reading R → Writing W → Option R → W → W → FileStreams R W
file_streams_of reading writing given writer writer' =
    record { reading = reading; writing = writing; given = given; writer = writer; writer' = writer' }

-- the reader gave these bytes
pub record Gave {R W : Type 0} (streams : FileStreams R W) (bytes : List ℕ) (reader' : R) : Type 0 where
  pub reader : R
  pub is_given : streams.given ≡ Some reader
  pub calls : ℕ
  pub few : calls ≤ 2 ^ 40
  pub gave : streams.reading.gives reader calls bytes reader'

-- the reader gave all its bytes, and their lines are this schedule
pub record IsRead {R W : Type 0} (streams : FileStreams R W) (config : Config) (schedule : PlainSchedule) : Type 0 where
  pub bytes : List ℕ
  pub reader' : R
  pub gave : Gave streams bytes reader'
  pub ended : streams.reading.at_end reader'
  pub said : IsSchedule config (lines_of bytes) schedule

-- its calls ended so, as one house over these events answers them
pub record IsTraced (config : Config) (schedule : PlainSchedule) (finished : List Finished) (events : List Event) : Type 0 where
  pub one_house : OneHouse config schedule.commands schedule.steps finished events
  pub rules : KeepsRules config events

-- and the line of each call that ended is written
pub record IsWritten {W : Type 0} (writing : Writing W) (config : Config) (schedule : PlainSchedule) (writer writer' : W) : Type 0 where
  pub finished : List Finished
  pub events : List Event
  pub traced : IsTraced config schedule finished events
  pub took : writing.takes writer (trace_text config finished) writer'
  pub kept : writing.failed writer' ≡ writing.failed writer

-- the configuration reads, the file is a schedule, and it is replayed
pub record IsReplayed {R W : Type 0} (streams : FileStreams R W) (file : List ℕ) : Type 0 where
  pub config : Config
  pub reads : config_or_fault file ≡ Ok config
  pub schedule : PlainSchedule
  pub read : IsRead streams config schedule
  pub written : IsWritten streams.writing config schedule streams.writer streams.writer'

-- ---- faults

-- the fault of a file that is no schedule
abbrev pub schedule_fault : Bor (List ℕ) → ScheduleFault → Fault
schedule_fault path read.Read = CannotRead path
schedule_fault path (read.Line line) = ScheduleLine line
schedule_fault path read.NoMemory = NoMemory

-- what the reader gave is no schedule
pub record IsNoSchedule {R W : Type 0} (streams : FileStreams R W) (path : Bor (List ℕ)) (config : Config) (fault : Fault) : Type 0 where
  pub bytes : List ℕ
  pub reader' : R
  pub gave : Gave streams bytes reader'
  pub cause : ScheduleFault
  pub fault_is : fault ≡ schedule_fault path cause
  pub fails : FailsToRead config (record { calls = gave.calls; bytes = bytes; has_failed = streams.reading.failed reader' }) cause

-- nothing is written, since there is no memory, the file could not be opened, or it is no schedule
pub record IsUnread {R W : Type 0} (streams : FileStreams R W) (path : Bor (List ℕ)) (config : Config) (fault : Fault) : Type 0 where
  pub writer_is : streams.writer' ≡ streams.writer
  pub cause : (fault ≡ NoMemory) ⊎ (((fault ≡ CannotRead path) × (streams.given ≡ None)) ⊎ IsNoSchedule streams path config fault)

-- its calls ended, and not all lines are written
pub record IsCutShort {W : Type 0} (writing : Writing W) (config : Config) (schedule : PlainSchedule) (writer writer' : W) (fault : Fault) : Type 0 where
  pub finished : List Finished
  pub events : List Event
  pub traced : IsTraced config schedule finished events
  pub cause : WriteFault
  pub fault_is : fault ≡ write_fault cause
  pub stopped : FailsToWrite writing config finished writer writer' cause

-- the file is a schedule, and not all lines are written
pub record IsUnwritten {R W : Type 0} (streams : FileStreams R W) (config : Config) (fault : Fault) : Type 0 where
  pub schedule : PlainSchedule
  pub read : IsRead streams config schedule
  pub cut : IsCutShort streams.writing config schedule streams.writer streams.writer' fault

-- under a configuration that reads
abbrev pub FailsUnder : {R W : Type 0} → FileStreams R W → Bor (List ℕ) → Config → Fault → Type 0
FailsUnder streams path config fault = IsUnread streams path config fault ⊎ IsUnwritten streams config fault

-- the configuration does not read, or there is no memory
pub record IsRefused {R W : Type 0} (streams : FileStreams R W) (file : List ℕ) (fault : Fault) : Type 0 where
  pub writer_is : streams.writer' ≡ streams.writer
  pub reads : fault ≢ NoMemory → config_or_fault file ≡ Err fault

-- the replay ended with this fault
abbrev pub Fails : {R W : Type 0} → FileStreams R W → Bor (List ℕ) → List ℕ → Fault → Type 0
Fails streams path file fault =
    IsRefused streams file fault ⊎ ((config : Config) × (config_or_fault file ≡ Ok config) × FailsUnder streams path config fault)
