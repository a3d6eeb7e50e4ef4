-- Lists in which no two items are alike.
use Rattle.std.specs.Prelude.{List, [], ◌∷◌, Bool, true, ◌&&◌, not}
use Rattle.std.specs.List.{list_any}
use Rattle.ocpi_json.specs.MemberFaults.{fault_at, member_of}
use Rattle.ocpi_json.specs.declared.expected.Expected.TheVariants as expected
use Rattle.ocpi_json.specs.declared.member_fault.MemberFault.{MemberFault}
use Rattle.ocpi_json.specs.declared.name.Name.{Name}

-- no two items at different places are alike: no later item is like the first, and so on for the rest
abbrev pub all_different : {X : Type 0} → (X → X → Bool) → List X → Bool
all_different alike [] = true
all_different alike (x ∷ xs) = not (list_any (alike x) xs) && all_different alike xs

-- the fault of a list in which two items are alike
abbrev pub doubled : Name → MemberFault
doubled n = fault_at (member_of n) expected.Different
