-- What a reader that takes memory gives, against what stands in its node.
use Rattle.std.specs.Prelude.{◌≡◌, Result, Ok, Err}
use Rattle.ocpi_json.specs.declared.fields.FieldFault.{FieldFault}
use Rattle.ocpi_json.specs.declared.fields.FieldFault.TheVariants.{Field, NoMemory}
use Rattle.ocpi_json.specs.MemberFaults.{seen_from}
use Rattle.ocpi_json.specs.declared.member_fault.MemberFault.{MemberFault}
use Rattle.ocpi_json.specs.declared.member_fault.Step.{Step}

-- the value that stands there, or the fault at a member, unless memory ran out
abbrev pub Finds : {X : Type 0} → Result X FieldFault → Result X MemberFault → Type 0
Finds (Ok x) found = found ≡ Ok x
Finds (Err (Field fault)) found = found ≡ Err fault
Finds (Err NoMemory) found = Unit {0}

-- what such a reader gives of an object that stands at that step of the one around it
abbrev pub within_in : {X : Type 0} → Step → Result X FieldFault → Result X FieldFault
within_in step (Ok x) = Ok x
within_in step (Err (Field fault)) = Err (Field (seen_from step fault))
within_in step (Err NoMemory) = Err NoMemory
