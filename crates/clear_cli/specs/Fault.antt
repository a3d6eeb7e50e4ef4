-- Faults of a house that does not finish and of what is not written, and lines on standard error.
use Rattle.std.specs.Prelude.{◌≡◌, ℕ, List, [], ◌∷◌}
use Rattle.request_lines.specs.Streams.{Writing}
use Rattle.shared_house.specs.declared.finishing.FinishFault.{FinishFault}
use Rattle.shared_house.specs.declared.finishing.FinishFault.TheVariants as finish
use Rattle.command_line.specs.Fault.{IsTold}
use Rattle.command_line.specs.declared.fault.Fault.{Fault}
use Rattle.command_line.specs.declared.fault.Fault.TheVariants.{CannotWrite, FinishMissingPass, FinishTorn, NoMemory}
use Rattle.clear_cli.specs.declared.schedule_text.WriteFault.{WriteFault}
use Rattle.clear_cli.specs.declared.schedule_text.WriteFault.TheVariants as write

-- the fault of a house that does not finish
abbrev pub finish_fault : FinishFault → Fault
finish_fault finish.MissingPass = FinishMissingPass
finish_fault (finish.Torn entry) = FinishTorn entry
finish_fault finish.NoMemory = NoMemory

-- the fault of what is not written
abbrev pub write_fault : WriteFault → Fault
write_fault write.Write = CannotWrite
write_fault write.NoMemory = NoMemory

-- the lines were told in turn, and nothing else
abbrev pub AreTold : {S : Type 0} → Writing S → S → List (List ℕ) → S → Type 0
AreTold writing sink [] sink' = sink' ≡ sink
AreTold writing sink (line ∷ lines) sink' =
    (between : _) × IsTold writing sink line between × AreTold writing between lines sink'
