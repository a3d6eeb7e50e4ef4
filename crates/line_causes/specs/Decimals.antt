-- The texts of numbers of millionths.
use Rattle.std.specs.Prelude.{ℕ, ◌+◌, ◌/◌, ◌%◌, List, [], ◌∷◌, ◌++◌, ℤ, unsigned_abs, decimal}
use Rattle.std.specs.Fmt.{sign_text}
use Rattle.std.specs.Int.{is_negative}

-- the last six digits of a number
abbrev pub six_digits : ℕ → List ℕ
six_digits n =
    (48 + n / 100000 % 10) ∷ (48 + n / 10000 % 10) ∷ (48 + n / 1000 % 10) ∷ (48 + n / 100 % 10) ∷ (48 + n / 10 % 10) ∷ (48 + n % 10) ∷ []

-- the whole part, a point and six decimals: 12500000 is `12.500000`
unfoldable pub energy_text : ℕ → List ℕ
energy_text millionths = decimal (millionths / 1000000) ++ (46 ∷ six_digits millionths)

-- a minus if below 0, and the size: -500000 is `-0.500000`
unfoldable pub millionths_text : ℤ → List ℕ
millionths_text millionths = sign_text (is_negative millionths) ++ energy_text (unsigned_abs millionths)
