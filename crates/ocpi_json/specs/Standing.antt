-- What stands where a fault is.
use Rattle.std.specs.Prelude.{ℕ, Option, Some, option_and_then, slice_get}
use Rattle.json.specs.Json.{Json as Data}
use Rattle.ocpi_json.specs.Fields.{as_items, member_at}
use Rattle.ocpi_json.specs.declared.member_fault.Around.{Around}
use Rattle.ocpi_json.specs.declared.member_fault.Around.TheVariants.{Nothing, One, Two, Three, Four}
use Rattle.ocpi_json.specs.declared.member_fault.MemberFault.{MemberFault}
use Rattle.ocpi_json.specs.declared.member_fault.Step.{Step}
use Rattle.ocpi_json.specs.declared.member_fault.Step.TheVariants.{Member, Item}

infixl 10 ◌>>=◌
abbrev pub ◌>>=◌ : {A B : Type 0} → Option A → (A → Option B) → Option B
o >>= f = option_and_then f o

-- the member of the object, or the item of it
abbrev pub standing_at_step : Step → Data → Option Data
standing_at_step (Member n) node = member_at n node
standing_at_step (Item n index) node = do
  member ← member_at n node
  items ← as_items member
  slice_get items index

-- the innermost of the objects
abbrev pub innermost : Around → Data → Option Data
innermost Nothing node = Some node
innermost (One a) node = standing_at_step a node
innermost (Two a b) node = standing_at_step a node >>= standing_at_step b
innermost (Three a b c) node = standing_at_step a node >>= standing_at_step b >>= standing_at_step c
innermost (Four a b c d) node = standing_at_step a node >>= standing_at_step b >>= standing_at_step c >>= standing_at_step d

abbrev pub standing_at : MemberFault → Data → Option Data
standing_at fault node = innermost fault.around node >>= standing_at_step fault.member
