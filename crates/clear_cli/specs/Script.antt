-- How the program answers a script.
use Rattle.std.specs.Prelude.{◌≡◌, ◌≢◌, ℕ, ◌^◌, ◌≤◌, ◌⊎◌, true, false, List, [], Result, Ok, Err, All}
use Rattle.ocpi_types.specs.declared.config.Config.{Config}
use Rattle.ocpi_types.specs.declared.config.reading.ConfigFault.{ConfigFault}
use Rattle.ocpi_types.specs.ConfigText.{config_of}
use Rattle.plain_house.specs.declared.event.Event.{Event}
use Rattle.request_lines.specs.declared.faults.ScriptFault.{ScriptFault}
use Rattle.request_lines.specs.Answering.{IsFault, is_read_fault, is_write_fault}
use Rattle.request_lines.specs.Lines.{lines_of, IsShort}
use Rattle.request_lines.specs.Script.{script_text, script_rule}
use Rattle.request_lines.specs.Streams.{Reading, Writing}
use Rattle.command_line.specs.declared.fault.Fault.{Fault}
use Rattle.command_line.specs.declared.fault.Fault.TheVariants.{NoMemory}
use Rattle.command_line.specs.Fault.{config_fault, script_fault}

abbrev pub or_fault : Result Config ConfigFault → Result Config Fault
or_fault (Ok config) = Ok config
or_fault (Err cause) = Err (config_fault cause)

-- what the bytes of a configuration file say, or why they are no configuration
abbrev pub config_or_fault : List ℕ → Result Config Fault
config_or_fault bytes = or_fault (config_of bytes)

-- a reader and a writer, before a script and after it, and what they state of themselves
pub record Streams (R W : Type 0) : Type 1 where
  pub reading : Reading R
  pub writing : Writing W
  pub reader : R
  pub reader' : R
  pub writer : W
  pub writer' : W

abbrev pub streams_of : {R W : Type 0} → Reading R → Writing W → R → R → W → W → Streams R W
streams_of reading writing reader reader' writer writer' =
    record { reading = reading; writing = writing; reader = reader; reader' = reader'; writer = writer; writer' = writer' }

-- the reader gave all its bytes, and their answers are written
pub record IsAnswered {R W : Type 0} (streams : Streams R W) (config : Config) : Type 0 where
  pub calls : ℕ
  pub bytes : List ℕ
  pub few : calls ≤ 2 ^ 40
  pub gave : streams.reading.gives streams.reader calls bytes streams.reader'
  pub ended : streams.reading.at_end streams.reader'
  pub took : streams.writing.takes streams.writer (script_text config [] bytes) streams.writer'
  pub each_short : All IsShort (lines_of bytes)
  pub reader_kept : streams.reading.failed streams.reader' ≡ streams.reading.failed streams.reader
  pub writer_kept : streams.writing.failed streams.writer' ≡ streams.writing.failed streams.writer

-- the script stopped for this cause
pub record IsStopped {R W : Type 0} (streams : Streams R W) (config : Config) (cause : ScriptFault) : Type 0 where
  pub calls : ℕ
  pub bytes : List ℕ
  pub written : List ℕ
  pub left : List Event
  pub few : calls ≤ 2 ^ 40
  pub gave : streams.reading.gives streams.reader calls bytes streams.reader'
  pub took : streams.writing.takes streams.writer written streams.writer'
  pub fails : IsFault (script_rule config)
      (record { calls = calls; bytes = bytes; has_failed = streams.reading.failed streams.reader'; at_end = streams.reading.at_end streams.reader' })
      (record { start = []; written = written; now = left }) cause
  pub reader_kept : is_read_fault cause ≡ false → streams.reading.failed streams.reader' ≡ streams.reading.failed streams.reader
  pub writer_failed_is : is_write_fault cause ≡ true → streams.writing.failed streams.writer' ≡ true
  pub writer_kept : is_write_fault cause ≡ false → streams.writing.failed streams.writer' ≡ streams.writing.failed streams.writer

-- nothing is read or written
pub record IsUntouched {R W : Type 0} (streams : Streams R W) : Type 0 where
  pub reader_is : streams.reader' ≡ streams.reader
  pub writer_is : streams.writer' ≡ streams.writer

-- the configuration reads, and all lines are answered under it
pub record IsDone {R W : Type 0} (streams : Streams R W) (file : List ℕ) : Type 0 where
  pub config : Config
  pub reads : config_or_fault file ≡ Ok config
  pub answered : IsAnswered streams config

-- nothing is done, since the configuration does not read or there is no memory
pub record IsRefused {R W : Type 0} (streams : Streams R W) (file : List ℕ) (fault : Fault) : Type 0 where
  pub untouched : IsUntouched streams
  pub reads : fault ≢ NoMemory → config_or_fault file ≡ Err fault

-- the configuration reads, and its script stopped for a cause that is this fault
pub record IsCutShort {R W : Type 0} (streams : Streams R W) (file : List ℕ) (fault : Fault) : Type 0 where
  pub config : Config
  pub cause : ScriptFault
  pub reads : config_or_fault file ≡ Ok config
  pub fault_is : fault ≡ script_fault cause
  pub stopped : IsStopped streams config cause

-- the script ended with this fault
abbrev pub Fails : {R W : Type 0} → Streams R W → List ℕ → Fault → Type 0
Fails streams file fault = IsRefused streams file fault ⊎ IsCutShort streams file fault
