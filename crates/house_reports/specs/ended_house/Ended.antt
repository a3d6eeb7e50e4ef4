-- A house after the lines of a reader.
use Rattle.std.specs.Prelude.{◌≡◌, ℕ, ◌^◌, ◌≤◌, List, [], Result, Ok, Err, All}
use Rattle.ocpi_types.specs.declared.config.Config.{Config}
use Rattle.ocpi_types.specs.declared.config.reading.ConfigFault.{ConfigFault}
use Rattle.plain_house.specs.declared.event.Event.{Event}
use Rattle.plain_house.specs.State.{State}
use Rattle.request_lines.specs.declared.faults.ScriptFault.{ScriptFault}
use Rattle.request_lines.specs.Answering.{IsFault, Rule}
use Rattle.request_lines.specs.Lines.{lines_of, IsShort}
use Rattle.request_lines.specs.Script.{list_after, script_rule}
use Rattle.request_lines.specs.Streams.{Reading}
use Rattle.line_streams.specs.State.{StreamState, empty_under, house_in}
use Rattle.line_streams.specs.Stream.{AreAnswered, stream_rule}
use Rattle.command_line.specs.declared.fault.Fault.{Fault}
use Rattle.command_line.specs.Fault.{config_fault, script_fault}

-- the reader gave all its bytes, and these are the events after their lines
pub record HasRead {R : Type 0} (reading : Reading R) (reader reader' : R) (config : Config) (events : List Event) : Type 0 where
  pub calls : ℕ
  pub bytes : List ℕ
  pub few : calls ≤ 2 ^ 40
  pub gave : reading.gives reader calls bytes reader'
  pub ended : reading.at_end reader'
  pub each_short : All IsShort (lines_of bytes)
  pub events_are : events ≡ list_after config [] (lines_of bytes)

-- the reader gave all its bytes, and this is the house of a stream that began under the configuration, after their lines
pub record HasStreamed {R : Type 0} (reading : Reading R) (reader reader' : R) (config : Config) (house : State) : Type 0 where
  pub calls : ℕ
  pub bytes : List ℕ
  pub text : List ℕ
  pub last : StreamState
  pub few : calls ≤ 2 ^ 40
  pub gave : reading.gives reader calls bytes reader'
  pub ended : reading.at_end reader'
  pub each_short : All IsShort (lines_of bytes)
  pub answered : AreAnswered (empty_under config) (lines_of bytes) text last
  pub house_is : house ≡ house_in last

-- of the lines, which this rule answers, not all were read, for this cause
pub record IsCutShort {R A : Type 0} (reading : Reading R) (rule : Rule A) (start : A) (reader reader' : R) (cause : ScriptFault) : Type 0 where
  pub calls : ℕ
  pub bytes : List ℕ
  pub written : List ℕ
  pub left : A
  pub few : calls ≤ 2 ^ 40
  pub gave : reading.gives reader calls bytes reader'
  pub fails : IsFault rule
      (record { calls = calls; bytes = bytes; has_failed = reading.failed reader'; at_end = reading.at_end reader' })
      (record { start = start; written = written; now = left }) cause

-- the lines of a script were not all read, for this cause
abbrev pub IsStopped : {R : Type 0} → Reading R → R → R → Config → ScriptFault → Type 0
IsStopped reading reader reader' config cause = IsCutShort reading (script_rule config) [] reader reader' cause

-- the lines of a stream were not all read, for this cause
abbrev pub IsStreamStopped : {R : Type 0} → Reading R → R → R → Config → ScriptFault → Type 0
IsStreamStopped reading reader reader' config cause = IsCutShort reading stream_rule (empty_under config) reader reader' cause

-- no house is there, for this fault: the bytes of the file are no configuration, or the lines were not all read
abbrev pub IsFaultOf : (Config → ScriptFault → Type 0) → Result Config ConfigFault → Fault → Type 0
IsFaultOf stopped (Ok config) fault = (cause : ScriptFault) × (fault ≡ script_fault cause) × stopped config cause
IsFaultOf stopped (Err cause) fault = fault ≡ config_fault cause
