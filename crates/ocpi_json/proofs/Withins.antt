-- Reading an object that stands in another.
use Rattle.std.proofs.Common.{◌≡◌, ap, Result, Ok, Err}
use Rattle.ocpi_json.specs.Faults.{Finds, within_in}
use Rattle.ocpi_json.specs.Members.{within}
use Rattle.ocpi_json.specs.declared.fields.FieldFault.{FieldFault}
use Rattle.ocpi_json.specs.declared.fields.FieldFault.TheVariants.{Field, NoMemory}
use Rattle.ocpi_json.specs.declared.member_fault.MemberFault.{MemberFault}
use Rattle.ocpi_json.specs.declared.member_fault.Step.{Step}

-- what is found in the object is found in the one around it, at that step
pub finds_within : {X : Type 0} (step : Step) (read : Result X FieldFault) (found : Result X MemberFault) → Finds read found → Finds (within_in step read) (within step found)
finds_within step (Ok x) found h = ap (within step) h
finds_within step (Err (Field fault)) found h = ap (within step) h
finds_within step (Err NoMemory) found h = tt
