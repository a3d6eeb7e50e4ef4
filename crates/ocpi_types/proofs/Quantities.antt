-- A quantity stands where a number of at least 0 does.
use Rattle.std.proofs.Common.{◌≡◌, ℤ, Option, Some, None, refl}
use Rattle.std.specs.Prelude.{option_map, unsigned_abs}
use Rattle.json.specs.Json.{Json as Data}
use Rattle.ocpi_json.specs.Fields.{required, optional, member_at, misfit, not_below_0, present_at, as_unsigned}
use Rattle.ocpi_json.specs.Members.{or_fault, if_any, shown, ◌>>=◌}
use Rattle.ocpi_json.specs.declared.member_fault.MemberFault.{MemberFault}
use Rattle.ocpi_json.specs.declared.name.Name.{Name}
use Rattle.ocpi_types.specs.Members.{as_quantity, quantity}

named : (fault : MemberFault) (found : Option ℤ) → or_fault fault (option_map unsigned_abs found) ≡ shown unsigned_abs (or_fault fault found)
named fault None = refl
named fault (Some z) = refl

behind : (fault : MemberFault) (found : Option Data) → or_fault fault found >>= (λ d. or_fault fault (as_quantity d)) ≡ shown unsigned_abs (or_fault fault found >>= (λ d. or_fault fault (as_unsigned d)))
behind fault None = refl
behind fault (Some d) = named fault (as_unsigned d)

pub quantity_at : (n : Name) (node : Data) → required quantity n node ≡ shown unsigned_abs (required not_below_0 n node)
quantity_at n node = behind (misfit quantity n) (member_at n node)

there : (fault : MemberFault) (found : Option ℤ) → if_any (λ z. or_fault fault z) (Some (option_map unsigned_abs found)) ≡ shown (option_map unsigned_abs) (if_any (λ z. or_fault fault z) (Some found))
there fault None = refl
there fault (Some z) = refl

in_any : (fault : MemberFault) (found : Option Data) → if_any (λ d. or_fault fault (as_quantity d)) found ≡ shown (option_map unsigned_abs) (if_any (λ d. or_fault fault (as_unsigned d)) found)
in_any fault None = refl
in_any fault (Some d) = there fault (as_unsigned d)

pub quantity_if_any : (n : Name) (node : Data) → optional quantity n node ≡ shown (option_map unsigned_abs) (optional not_below_0 n node)
quantity_if_any n node = in_any (misfit quantity n) (present_at n node)
