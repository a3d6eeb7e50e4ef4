-- Reading the members of an object in order: each gives its value, or the fault at a member.
use Rattle.std.specs.Prelude.{ℕ, ◌+◌, List, [], ◌∷◌, Option, Some, None, Result, Ok, Err}
use Rattle.json.specs.Json.{Json as Data}
use Rattle.ocpi_json.specs.MemberFaults.{item_of, member_of, seen_from}
use Rattle.ocpi_json.specs.declared.member_fault.MemberFault.{MemberFault}
use Rattle.ocpi_json.specs.declared.member_fault.Step.{Step}
use Rattle.ocpi_json.specs.declared.name.Name.{Name}

infixl 10 ◌>>=◌
-- the first fault is the fault of all
abbrev pub ◌>>=◌ : {A B : Type 0} → Result A MemberFault → (A → Result B MemberFault) → Result B MemberFault
(Ok x) >>= f = f x
(Err fault) >>= f = Err fault

-- a value as it shows, or the fault
abbrev pub shown : {A B : Type 0} → (A → B) → Result A MemberFault → Result B MemberFault
shown f (Ok x) = Ok (f x)
shown f (Err fault) = Err fault

-- a value, or the fault if there is none
abbrev pub or_fault : {X : Type 0} → MemberFault → Option X → Result X MemberFault
or_fault fault None = Err fault
or_fault fault (Some x) = Ok x

-- what is read of an object that stands at that step of the one around it
abbrev pub within : {X : Type 0} → Step → Result X MemberFault → Result X MemberFault
within step (Ok x) = Ok x
within step (Err fault) = Err (seen_from step fault)

-- what is read of the object in the member of that name
abbrev pub inside : {X : Type 0} → Name → Result X MemberFault → Result X MemberFault
inside n found = within (member_of n) found

-- the items of the list in the member of that name from an index on, in order, or the fault of the first that has one
abbrev pub each_from : {X : Type 0} → Name → ℕ → (Data → Result X MemberFault) → List Data → Result (List X) MemberFault
each_from n index read [] = Ok []
each_from n index read (d ∷ ds) = do
  x ← within (item_of n index) (read d)
  xs ← each_from n (index + 1) read ds
  Ok (x ∷ xs)

-- the items of the list in the member of that name
abbrev pub each : {X : Type 0} → Name → (Data → Result X MemberFault) → List Data → Result (List X) MemberFault
each n read items = each_from n 0 read items

-- what is read of it, if it is there
abbrev pub if_any : {A B : Type 0} → (A → Result B MemberFault) → Option A → Result (Option B) MemberFault
if_any read None = Ok None
if_any read (Some a) = do
  b ← read a
  Ok (Some b)
