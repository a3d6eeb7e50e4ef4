-- The path of a member, as `cdr.charging_periods[3].dimensions[0].volume`: the objects around it, and the member.
use Rattle.std.specs.Prelude.{ℕ, List, [], ◌++◌, codes, decimal}
use Rattle.ocpi_json.specs.Name.{key_text}
use Rattle.ocpi_json.specs.declared.member_fault.Around.{Around}
use Rattle.ocpi_json.specs.declared.member_fault.Around.TheVariants.{Nothing, One, Two, Three, Four}
use Rattle.ocpi_json.specs.declared.member_fault.Step.{Step}
use Rattle.ocpi_json.specs.declared.member_fault.Step.TheVariants.{Member, Item}

-- a member, or an item of the list that a member is, counted from 0
unfoldable pub step_text : Step → List ℕ
step_text (Member name) = key_text name
step_text (Item name index) = key_text name ++ codes "[" ++ decimal index ++ codes "]"

-- an object around a member
abbrev pub object_text : Step → List ℕ
object_text object = step_text object ++ codes "."

-- the objects around a member, from the outermost
unfoldable pub around_text : Around → List ℕ
around_text Nothing = []
around_text (One first) = object_text first
around_text (Two first second) = object_text first ++ object_text second
around_text (Three first second third) = object_text first ++ object_text second ++ object_text third
around_text (Four first second third fourth) = object_text first ++ object_text second ++ object_text third ++ object_text fourth
