-- What the texts of numbers say.
use Rattle.std.specs.Prelude.{◌≡◌, ℕ, zero, suc, ◌+◌, ◌-◌, ◌*◌, ◌^◌, ◌<◌, ◌≤◌, List, [], ◌∷◌, ◌++◌, codes, length}
use Rattle.std.specs.Str.Parse.{AllDigits, IsNumeral, digits_value}
use Rattle.input_reports.specs.explain_cost.Numbers.{behind_point, cost_text, millionths_text}

-- whole digits, and up to so many decimals behind a point: the number is a number of units of the last of these places
pub record IsDecimal (places number : ℕ) (text : List ℕ) : Type 0 where
  pub whole : List ℕ
  pub decimals : List ℕ
  pub spelled : text ≡ whole ++ behind_point decimals
  pub whole_digits : IsNumeral 10 whole
  pub decimal_digits : AllDigits 10 decimals
  pub few : length decimals ≤ places
  pub value : digits_value 10 whole * 10 ^ places + digits_value 10 decimals * 10 ^ (places - length decimals) ≡ number

-- nothing, or a space and how many ninths
abbrev pub behind_space : ℕ → List ℕ
behind_space zero = []
behind_space (suc ninths) = 32 ∷ (48 + suc ninths) ∷ codes "/9"

-- twelve places, and ninths of the last
pub record IsCost (units : ℕ) (text : List ℕ) : Type 0 where
  pub number : ℕ
  pub ninths : ℕ
  pub decimal : List ℕ
  pub spelled : text ≡ decimal ++ behind_space ninths
  pub is_decimal : IsDecimal 12 number decimal
  pub below_nine : ninths < 9
  pub value : 9 * number + ninths ≡ units

-- the text of millionths says so many millionths, and the text of units of a cost so many units, at 128 bits
pub record TextsReadBack : Type 0 where
  pub millionths : (number : ℕ) → number < 2 ^ 128 → IsDecimal 6 number (millionths_text number)
  pub costs : (units : ℕ) → units < 2 ^ 128 → IsCost units (cost_text units)
