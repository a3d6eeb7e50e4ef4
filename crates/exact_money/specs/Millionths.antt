-- What number of millionths a text is.
use Rattle.std.specs.Prelude.{◌≡◌, ℕ, ◌^◌, ◌↔◌, List, ℤ, pos, neg_ℤ, ◌≤ℤ◌, Option, Some, option_map}
use Rattle.exact_money.specs.Numeral.{Numeral, IsPlain, IsValue, spelling}
use Rattle.exact_money.specs.Inner.NumeralOf.{numeral_of, value_of}

-- at most 10^15 either way
abbrev pub IsWithinLimit : ℤ → Type 0
IsWithinLimit millionths = (neg_ℤ (pos (10 ^ 15)) ≤ℤ millionths) × (millionths ≤ℤ pos (10 ^ 15))

-- the text is a number, and these are its millionths
abbrev pub IsMillionthsOf : List ℕ → ℤ → Type 0
IsMillionthsOf text millionths = (n : Numeral) × IsPlain n × (text ≡ spelling n) × IsValue n millionths

-- the millionths that a text is, or `None` where it is no number
unfoldable pub millionths_of : List ℕ → Option ℤ
millionths_of text = option_map value_of (numeral_of text)

-- `millionths_of` gives m exactly where the text is a number and m its millionths
abbrev pub MillionthsOfIsValue : Type 0
MillionthsOfIsValue = (text : List ℕ) (m : ℤ) → (millionths_of text ≡ Some m) ↔ IsMillionthsOf text m
