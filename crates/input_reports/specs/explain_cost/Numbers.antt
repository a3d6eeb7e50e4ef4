-- The texts of numbers in rows.
use Rattle.std.specs.Prelude.{ℕ, zero, suc, ◌+◌, ◌/◌, ◌%◌, ◌^◌, ◌==◌, List, [], ◌∷◌, ◌++◌, codes, decimal, if◌then◌else◌}

-- the last digits of the number, so many
unfoldable pub last_digits : ℕ → ℕ → List ℕ
last_digits zero number = []
last_digits (suc places) number = (48 + number / 10 ^ places % 10) ∷ last_digits places number

-- the same without zeros at their end
unfoldable pub without_last_zeros : ℕ → ℕ → List ℕ
without_last_zeros zero number = []
without_last_zeros (suc places) number =
    if number % 10 == 0 then without_last_zeros places (number / 10) else last_digits (suc places) number

-- a point and the digits, where there are any
abbrev pub behind_point : List ℕ → List ℕ
behind_point [] = []
behind_point (digit ∷ digits) = 46 ∷ digit ∷ digits

-- millionths: up to six decimals, without zeros at their end
abbrev pub millionths_text : ℕ → List ℕ
millionths_text millionths = decimal (millionths / 1_000_000) ++ behind_point (without_last_zeros 6 millionths)

-- all twelve decimals, a space, and the ninths of the twelfth that are left
abbrev pub ninths_text : ℕ → ℕ → List ℕ
ninths_text number ninths = 46 ∷ last_digits 12 number ++ (32 ∷ (48 + ninths) ∷ codes "/9")

-- units of a cost: up to twelve decimals, without zeros at their end where no ninths are left
abbrev pub cost_text : ℕ → List ℕ
cost_text units =
    decimal (units / 9_000_000_000_000)
    ++ (if units % 9 == 0 then behind_point (without_last_zeros 12 (units / 9)) else ninths_text (units / 9) (units % 9))
