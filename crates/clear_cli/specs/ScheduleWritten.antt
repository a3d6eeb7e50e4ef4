-- How the writing of lines of calls ends.
use Rattle.std.specs.Prelude.{◌≡◌, ◌<◌, ℕ, true, List, length, take}
use Rattle.ocpi_types.specs.declared.config.Config.{Config}
use Rattle.house_core.specs.declared.finished.Finished.{Finished}
use Rattle.request_lines.specs.Streams.{Writing}
use Rattle.clear_cli.specs.declared.schedule_text.WriteFault.{WriteFault}
use Rattle.clear_cli.specs.declared.schedule_text.WriteFault.TheVariants.{NoMemory, Write}
use Rattle.clear_cli.specs.ScheduleText.{trace_text}

-- the writer failed, and took the first bytes of all lines
pub record StopsWriting {W : Type 0} (writing : Writing W) (text : List ℕ) (writer writer' : W) : Type 0 where
  pub sent : ℕ
  pub some_left : sent < length text
  pub took : writing.takes writer (take sent text) writer'
  pub has_failed : writing.failed writer' ≡ true

-- memory ran out, and the writer took the lines of the first calls
pub record GivesUpWriting {W : Type 0} (writing : Writing W) (config : Config) (finished : List Finished) (writer writer' : W) : Type 0 where
  pub told : ℕ
  pub took : writing.takes writer (trace_text config (take told finished)) writer'
  pub kept : writing.failed writer' ≡ writing.failed writer

abbrev pub FailsToWrite : {W : Type 0} → Writing W → Config → List Finished → W → W → WriteFault → Type 0
FailsToWrite writing config finished writer writer' Write = StopsWriting writing (trace_text config finished) writer writer'
FailsToWrite writing config finished writer writer' NoMemory = GivesUpWriting writing config finished writer writer'
