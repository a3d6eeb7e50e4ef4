-- Kinds of members, and checks between the members of an object.
use Rattle.std.specs.Prelude.{◌≡◌, refl, ℕ, Bool, true, false, Option, option_map, Result, Ok, Err, unsigned_abs}
use Rattle.json.specs.Json.{Json as Data}
use Rattle.ocpi_json.specs.Fields.{Kind, as_unsigned}
use Rattle.ocpi_json.specs.declared.expected.Expected.TheVariants as expected
use Rattle.ocpi_json.specs.declared.member_fault.MemberFault.{MemberFault}

-- nothing where it holds, and else the fault
abbrev pub ensure : Bool → MemberFault → Result Unit MemberFault
ensure true fault = Ok tt
ensure false fault = Err fault

-- that it holds, or the fault
abbrev pub true_or : MemberFault → (b : Bool) → Result (b ≡ true) MemberFault
true_or fault true = Ok refl
true_or fault false = Err fault

-- a number of at least 0, in millionths
abbrev pub as_quantity : Data → Option ℕ
as_quantity d = option_map unsigned_abs (as_unsigned d)

abbrev pub quantity : Kind ℕ
quantity = record { must_be = expected.NotBelow0; means = as_quantity }
