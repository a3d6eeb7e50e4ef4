-- Lists in which two items are alike.
use Rattle.std.proofs.Common.{◌≡◌, Bool, true, false, List, Result, Ok, Err, subst}
use Rattle.std.specs.Prelude.{if◌then◌else◌}
use Rattle.ocpi_json.specs.Faults.{Finds}
use Rattle.ocpi_json.specs.Members.{◌>>=◌}
use Rattle.ocpi_json.specs.declared.fields.FieldFault.{FieldFault}
use Rattle.ocpi_json.specs.declared.member_fault.MemberFault.{MemberFault}
use Rattle.ocpi_json.specs.declared.name.Name.{Name}
use Rattle.ocpi_types.specs.Different.{doubled}
use Rattle.ocpi_types.specs.Members.{ensure}

-- their fault is found where they are read
pub doubled_found : {X : Type 0} (b : Bool) (n : Name) (xs : List X) (fault : MemberFault) (r : Result (List X) FieldFault) → Err fault ≡ (if b then Ok xs else Err (doubled n)) → Finds r (Err fault) → Finds r (ensure b (doubled n) >>= (λ x. Ok xs))
doubled_found true n xs fault r h found = subst (λ f. Finds r f) h found
doubled_found false n xs fault r h found = subst (λ f. Finds r f) h found
