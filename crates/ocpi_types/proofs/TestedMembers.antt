-- What is tested between the members of a CDR, with what it proves.
use Rattle.std.proofs.Common.{◌≡◌, ◌∙◌, Bool, true, false, ap, Result, Ok, Err, refl}
use Rattle.std.specs.Prelude.{◌||◌, is_some, pos, int_le, nat_le, length}
use Rattle.std.specs.List.{list_all}
use Rattle.std.proofs.Math.Bool.{Bool-set}
use Rattle.ocpi_json.specs.MemberFaults.{fault_at, member_of}
use Rattle.ocpi_json.specs.declared.expected.Expected.TheVariants as expected
use Rattle.ocpi_json.specs.Members.{◌>>=◌}
use Rattle.ocpi_json.specs.declared.member_fault.MemberFault.{MemberFault}
use Rattle.ocpi_json.specs.declared.name.Name.TheVariants as name
use Rattle.ocpi_types.specs.Cdr.{fault_of_volume}
use Rattle.ocpi_types.specs.ChargingPeriod.{has_volumes_in_range}
use Rattle.ocpi_types.specs.Inner.CdrParts.{cdr_of, cdr_with}
use Rattle.ocpi_types.specs.Members.{true_or}
use Rattle.ocpi_types.specs.declared.cdr.reading.CdrMembers.{CdrMembers}

pub passed : {R : Type 0} (fault : MemberFault) (b : Bool) (rest : b ≡ true → Result R MemberFault) (h : b ≡ true) → true_or fault b >>= rest ≡ rest h
passed fault true rest h = ap rest (Bool-set true true refl h)
passed fault false rest h = absurd (cc)

pub failed : {R : Type 0} (fault : MemberFault) (b : Bool) (rest : b ≡ true → Result R MemberFault) → b ≡ false → true_or fault b >>= rest ≡ Err fault
failed fault true rest h = absurd (cc)
failed fault false rest h = refl

pub all_passed : (parts : CdrMembers)
    (id : (is_some parts.totals.credit || nat_le (length parts.opening.id) 36) ≡ true)
    (volumes : (is_some parts.totals.credit || list_all has_volumes_in_range parts.charging_periods) ≡ true)
    (energy : (is_some parts.totals.credit || int_le (pos 0) parts.totals.total_energy) ≡ true)
    → cdr_of parts ≡ Ok (cdr_with parts id volumes energy)
all_passed parts id volumes energy = passed (fault_at (member_of name.Id) expected.CdrId) _ _ id ∙ (passed (fault_of_volume parts.charging_periods) _ _ volumes ∙ passed (fault_at (member_of name.TotalEnergy) expected.CdrNumber) _ _ energy)
