-- The tokens of a value: their texts, and a number by which most values can be told apart.
use Rattle.std.specs.Prelude.{ℕ, ◌+◌, ◌-◌, ◌*◌, ◌%◌, ◌^◌, List, [], ◌∷◌, ◌++◌, flat_map, length, take, drop}
use Rattle.json.specs.Json.{Json as Data}
use Rattle.json.specs.Token.{Token}
use Rattle.json.specs.Tree.{json_tokens}

-- the text of a key, a string or a number
abbrev pub text_of : Token → List ℕ
text_of Token.begin_object = []
text_of Token.end_object = []
text_of Token.begin_array = []
text_of Token.end_array = []
text_of (Token.key s) = s
text_of (Token.string s) = s
text_of (Token.number s) = s
text_of (Token.boolean b) = []
text_of Token.null = []
text_of Token.bad = []

-- the texts of a value, one after the other
abbrev pub texts_in : Data → List ℕ
texts_in j = flat_map text_of (json_tokens j)

-- the text of a string
abbrev pub string_of : Token → List ℕ
string_of Token.begin_object = []
string_of Token.end_object = []
string_of Token.begin_array = []
string_of Token.end_array = []
string_of (Token.key s) = []
string_of (Token.string s) = s
string_of (Token.number s) = []
string_of (Token.boolean b) = []
string_of Token.null = []
string_of Token.bad = []

-- a sum and then these bytes: before each byte the sum is taken 31 times
abbrev pub summed : ℕ → List ℕ → ℕ
summed sum [] = sum
summed sum (b ∷ bs) = summed ((sum * 31 + b) % 2 ^ 32) bs

-- the sum of the strings among the first 8 tokens and the last 2
unfoldable pub fingerprint_of : Data → ℕ
fingerprint_of j = summed 0 (flat_map string_of (take 8 (json_tokens j) ++ drop (length (json_tokens j) - 2) (json_tokens j)))
