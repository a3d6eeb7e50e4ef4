-- Where a member stands that is not read, and what it has to be.
use Rattle.std.specs.Prelude.{ℕ, nat_lt, if◌then◌else◌, Option, Some, None}
use Rattle.ocpi_json.specs.declared.expected.Expected.{Expected}
use Rattle.ocpi_json.specs.declared.member_fault.Around.{Around}
use Rattle.ocpi_json.specs.declared.member_fault.Around.TheVariants.{Nothing, One, Two, Three, Four}
use Rattle.ocpi_json.specs.declared.member_fault.MemberFault.{MemberFault}
use Rattle.ocpi_json.specs.declared.member_fault.Step.{Step}
use Rattle.ocpi_json.specs.declared.member_fault.Step.TheVariants.{Member, Item}
use Rattle.ocpi_json.specs.declared.name.Name.{Name}

-- the member of that name
abbrev pub member_of : Name → Step
member_of n = Member n

-- an item of the list in the member of that name, by its index; one that comes after 65536 others is reported as the list
abbrev pub item_of : Name → ℕ → Step
item_of n index = if nat_lt index 65536 then Item n index else Member n

-- the item of that index, or the member itself
abbrev pub step_of : Name → Option ℕ → Step
step_of n None = Member n
step_of n (Some index) = item_of n index

abbrev pub name_of : Step → Name
name_of (Member n) = n
name_of (Item n index) = n

-- the fault at a member of the object that is read
abbrev pub fault_at : Step → Expected → MemberFault
fault_at step expected = record { around = Nothing; member = step; expected = expected }

-- the objects around, as they show from one more around them; the fifth and those in it are left out
abbrev pub deeper : Step → Around → Around
deeper step Nothing = One step
deeper step (One first) = Two step first
deeper step (Two first second) = Three step first second
deeper step (Three first second third) = Four step first second third
deeper step (Four first second third fourth) = Four step first second third

-- the same fault as the object shows it in which the other stands at that step
abbrev pub seen_from : Step → MemberFault → MemberFault
seen_from step fault = record { around = deeper step fault.around; member = fault.member; expected = fault.expected }
