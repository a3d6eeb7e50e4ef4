-- What ends a command early, and the lines that tell it on standard error.
use Rattle.std.specs.Prelude.{◌≡◌, ℕ, ◌<◌, ◌⊎◌, true, List, ◌++◌, length, take, codes, decimal}
use Rattle.ocpi_json.specs.MemberFaults.{name_of}
use Rattle.ocpi_json.specs.Name.{key_text}
use Rattle.ocpi_types.specs.declared.config.reading.ConfigFault.{ConfigFault}
use Rattle.ocpi_types.specs.declared.config.reading.ConfigFault.TheVariants.{Syntax, Member, NoMemory as ConfigNoMemory}
use Rattle.request_lines.specs.declared.faults.ScriptFault.{ScriptFault}
use Rattle.request_lines.specs.declared.faults.ScriptFault.TheVariants.{Read, Write, NoMemory as ScriptNoMemory, LineTooLong as ScriptLineTooLong}
use Rattle.request_lines.specs.Streams.{Writing}
use Rattle.command_line.specs.declared.fault.Fault.{Fault}
use Rattle.command_line.specs.declared.fault.Fault.TheVariants.{Usage, ConfigSyntax, ConfigMember, ConfigTooLong, ConfigNoJson, CannotRead, CannotReadInput, CannotWrite, EarlierStatements, LineTooLong, ScheduleLine, FinishMissingPass, FinishTorn, NoMemory}

-- ---- one fault

abbrev pub cannot_read_text : List ℕ → List ℕ
cannot_read_text path = codes "cannot read " ++ (path ++ codes "\n")

-- a fault's text, to the end of its line
abbrev pub fault_text : Fault → List ℕ
fault_text Usage = codes "usage\n"
fault_text ConfigSyntax = codes "config: syntax\n"
fault_text (ConfigMember called) = codes "config: " ++ (key_text called ++ codes "\n")
fault_text ConfigTooLong = codes "longer than 1048576 bytes\n"
fault_text (ConfigNoJson line column) = codes "line " ++ (decimal line ++ (codes " column " ++ (decimal column ++ codes ": no JSON\n")))
fault_text (CannotRead path) = cannot_read_text path.now
fault_text CannotReadInput = codes "cannot read -\n"
fault_text CannotWrite = codes "cannot write\n"
fault_text (EarlierStatements folder) = codes "statements of an earlier run in " ++ (folder.now ++ codes "\n")
fault_text (LineTooLong line) = codes "line " ++ (decimal line ++ codes " is too long\n")
fault_text (ScheduleLine line) = codes "schedule: line " ++ (decimal line ++ codes "\n")
fault_text FinishMissingPass = codes "finish: missing pass\n"
fault_text (FinishTorn entry) = codes "finish: torn at " ++ (decimal entry ++ codes "\n")
fault_text NoMemory = codes "no memory\n"

-- the line of a fault, of the program of this name
abbrev pub line_of : List ℕ → Fault → List ℕ
line_of program fault = program ++ (codes ": " ++ fault_text fault)

abbrev pub fault_line : Fault → List ℕ
fault_line fault = codes "clear: " ++ fault_text fault

-- the line of a fault of the file of this number, from 1
abbrev pub file_line : ℕ → List ℕ → List ℕ
file_line number text = codes "clear: file " ++ (decimal number ++ (codes ": " ++ text))

-- the exit status at a fault
abbrev pub exit_status : Fault → ℕ
exit_status Usage = 2
exit_status ConfigSyntax = 1
exit_status (ConfigMember called) = 1
exit_status ConfigTooLong = 1
exit_status (ConfigNoJson line column) = 1
exit_status (CannotRead path) = 1
exit_status CannotReadInput = 1
exit_status CannotWrite = 1
exit_status (EarlierStatements folder) = 1
exit_status (LineTooLong line) = 1
exit_status (ScheduleLine line) = 1
exit_status FinishMissingPass = 1
exit_status (FinishTorn entry) = 1
exit_status NoMemory = 1

-- the fault of bytes that are no configuration
abbrev pub config_fault : ConfigFault → Fault
config_fault Syntax = ConfigSyntax
config_fault (Member fault) = ConfigMember (name_of fault.member)
config_fault ConfigNoMemory = NoMemory

-- the fault of lines that are not all answered
abbrev pub script_fault : ScriptFault → Fault
script_fault Read = CannotReadInput
script_fault (Write written) = CannotWrite
script_fault ScriptNoMemory = NoMemory
script_fault (ScriptLineTooLong line) = LineTooLong line

-- ---- on standard error

-- the sink took the whole line, or failed within it
abbrev pub IsTold : {S : Type 0} → Writing S → S → List ℕ → S → Type 0
IsTold writing sink line sink' =
    (writing.takes sink line sink' × (writing.failed sink' ≡ writing.failed sink))
    ⊎ ((sent : ℕ) × (sent < length line) × writing.takes sink (take sent line) sink' × (writing.failed sink' ≡ true))
