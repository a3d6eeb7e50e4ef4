-- How many arrays and objects are open along the tokens of a value.
use Rattle.std.specs.Prelude.{ℕ, ◌+◌, ◌-◌, List, [], ◌∷◌, Bool, true, ◌&&◌, nat_le, Option, Some, None}
use Rattle.json.specs.Token.{Token}
use Rattle.json.specs.declared.tape.Node.{Node}
use Rattle.json.specs.declared.tape.Node.TheVariants.{Object, EndObject, Array, EndArray, Key, String, Number, Bool as Flag, Null}
use Rattle.ocpi_json.specs.Reading.{max_depth}

-- how many are open behind the token, where so many are before it
abbrev pub level : ℕ → Token → ℕ
level deep Token.begin_object = deep + 1
level deep Token.end_object = deep - 1
level deep Token.begin_array = deep + 1
level deep Token.end_array = deep - 1
level deep (Token.key s) = deep
level deep (Token.string s) = deep
level deep (Token.number s) = deep
level deep (Token.boolean b) = deep
level deep Token.null = deep
level deep Token.bad = deep

-- no more than may nest are open anywhere, where so many are before the tokens
abbrev pub stays_within : ℕ → List Token → Bool
stays_within deep [] = true
stays_within deep (t ∷ ts) = nat_le (level deep t) max_depth && stays_within (level deep t) ts

-- the link of a node to the index after its array or object
abbrev pub link_of : Node → Option ℕ
link_of (Object after) = Some after
link_of EndObject = None
link_of (Array after) = Some after
link_of EndArray = None
link_of (Key s) = None
link_of (String s) = None
link_of (Number s) = None
link_of (Flag b) = None
link_of Null = None
