-- How a schedule file is read.
use Rattle.std.specs.Prelude.{◌≡◌, ℕ, ◌^◌, ◌⊎◌, Bool, true, List}
use Rattle.ocpi_types.specs.declared.config.Config.{Config}
use Rattle.request_lines.specs.Lines.{lines_of}
use Rattle.clear_cli.specs.declared.schedule_file.ScheduleFault.{ScheduleFault}
use Rattle.clear_cli.specs.declared.schedule_file.ScheduleFault.TheVariants.{Line, NoMemory, Read}
use Rattle.clear_cli.specs.ScheduleFile.{IsAtFault}

-- what the reader gave in so many calls, and whether a call has failed
pub record Given : Type 0 where
  pub calls : ℕ
  pub bytes : List ℕ
  pub has_failed : Bool

-- why what was given is no schedule
abbrev pub FailsToRead : Config → Given → ScheduleFault → Type 0
FailsToRead config given Read = (given.has_failed ≡ true) ⊎ (given.calls ≡ 2 ^ 40)
FailsToRead config given (Line number) = IsAtFault config (lines_of given.bytes) number
FailsToRead config given NoMemory = Unit {0}
