-- A line on its way to a writer.
use Rattle.std.specs.Prelude.{◌≡◌, ℕ, List}
use Rattle.request_lines.specs.Streams.{Writing}
use Rattle.clear_cli.specs.declared.schedule_text.WriteFault.{WriteFault}
use Rattle.clear_cli.specs.declared.schedule_text.WriteFault.TheVariants.{NoMemory, Write}
use Rattle.clear_cli.specs.ScheduleWritten.{StopsWriting}

-- the writer failed within the line, or nothing is written, since memory ran out
abbrev pub FailsInLine : {W : Type 0} → Writing W → List ℕ → W → W → WriteFault → Type 0
FailsInLine writing line writer writer' Write = StopsWriting writing line writer writer'
FailsInLine writing line writer writer' NoMemory = writer' ≡ writer
