-- The tokens of a value, kept as their marks and their texts in a row.
use Rattle.std.specs.Prelude.{◌≡◌, ℕ, List, [], ◌∷◌, map, flat_map, length, take, drop, true, false}
use Rattle.json.specs.Json.{Json as Data}
use Rattle.json.specs.Token.{Token}
use Rattle.json.specs.Tree.{json_tokens}
use Rattle.ocpi_json.specs.Inner.Begun.{begun}
use Rattle.ocpi_json.specs.Tokens.{text_of}
use Rattle.ocpi_json.specs.declared.kept_tokens.Kind.{Kind}
use Rattle.ocpi_json.specs.declared.kept_tokens.Kind.TheVariants as kind
use Rattle.ocpi_json.specs.declared.kept_tokens.Mark.{Mark}

-- no tape has a bad token
abbrev pub kind_of : Token → Kind
kind_of Token.begin_object = kind.Object
kind_of Token.end_object = kind.EndObject
kind_of Token.begin_array = kind.Array
kind_of Token.end_array = kind.EndArray
kind_of (Token.key s) = kind.Key
kind_of (Token.string s) = kind.String
kind_of (Token.number s) = kind.Number
kind_of (Token.boolean true) = kind.True
kind_of (Token.boolean false) = kind.False
kind_of Token.null = kind.Null
kind_of Token.bad = kind.Null

-- the token of this kind and text
abbrev pub token_of : Kind → List ℕ → Token
token_of kind.Object s = Token.begin_object
token_of kind.EndObject s = Token.end_object
token_of kind.Array s = Token.begin_array
token_of kind.EndArray s = Token.end_array
token_of kind.Key s = Token.key s
token_of kind.String s = Token.string s
token_of kind.Number s = Token.number s
token_of kind.True s = Token.boolean true
token_of kind.False s = Token.boolean false
token_of kind.Null s = Token.null

abbrev pub mark_of : Token → Mark
mark_of t = record { kind = kind_of t; len = length (text_of t) }

-- these are the marks of the tokens, and their texts
abbrev pub Spells : List Mark → List ℕ → List Token → Type 0
Spells marks texts ts = (marks ≡ map mark_of ts) × (texts ≡ flat_map text_of ts)

-- the tokens of these marks and texts
abbrev pub kept_tokens : List Mark → List ℕ → List Token
kept_tokens [] texts = []
kept_tokens (m ∷ ms) texts = token_of m.kind (take m.len texts) ∷ kept_tokens ms (drop m.len texts)

-- the value of these tokens
unfoldable pub kept_value : List Mark → List ℕ → Data
kept_value marks texts = begun (kept_tokens marks texts)

-- the marks and the texts are those of their value
unfoldable pub Keeps : List Mark → List ℕ → Type 0
Keeps marks texts = Spells marks texts (json_tokens (kept_value marks texts))
