-- Why a configuration is not read.
use Rattle.std.specs.Prelude.{◌≡◌, Result, Ok, Err}
use Rattle.ocpi_json.specs.declared.fault.ReadFault.{ReadFault}
use Rattle.ocpi_json.specs.declared.fault.ReadFault.TheVariants as read
use Rattle.ocpi_json.specs.declared.fields.FieldFault.{FieldFault}
use Rattle.ocpi_json.specs.declared.fields.FieldFault.TheVariants as field
use Rattle.ocpi_types.specs.declared.config.Config.{Config}
use Rattle.ocpi_types.specs.declared.config.reading.ConfigFault.{ConfigFault}
use Rattle.ocpi_types.specs.declared.config.reading.ConfigFault.TheVariants.{Syntax, Member, NoMemory}

abbrev pub from_read : ReadFault → ConfigFault
from_read read.Syntax = Syntax
from_read read.NoMemory = NoMemory

abbrev pub from_field : FieldFault → ConfigFault
from_field (field.Field fault) = Member fault
from_field field.NoMemory = NoMemory

-- what a reader gives is what was found, unless memory ran out
abbrev pub ReadsConfig : Result Config ConfigFault → Result Config ConfigFault → Type 0
ReadsConfig (Ok config) found = found ≡ Ok config
ReadsConfig (Err Syntax) found = found ≡ Err Syntax
ReadsConfig (Err (Member fault)) found = found ≡ Err (Member fault)
ReadsConfig (Err NoMemory) found = Unit {0}
