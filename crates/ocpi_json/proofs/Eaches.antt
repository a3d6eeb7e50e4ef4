-- Reading the items of a list in order.
use Rattle.std.proofs.Common.{List, ◌++◌, Result, Ok, Err}
use Rattle.ocpi_json.specs.declared.member_fault.MemberFault.{MemberFault}

-- the items, with these before them
abbrev pub behind_items : {X : Type 0} → List X → Result (List X) MemberFault → Result (List X) MemberFault
behind_items xs (Ok ys) = Ok (xs ++ ys)
behind_items xs (Err fault) = Err fault
