-- A decimal number as text, and what it is rounded to.
use Rattle.std.specs.Prelude.{◌≡◌, ℕ, ◌+◌, ◌*◌, ◌^◌, ◌≤◌, ◌⊎◌, ◌≢◌, List, [], ◌∷◌, ◌++◌, Bool, length, slice_index, if◌then◌else◌, ℤ, pos, neg_ℤ}
use Rattle.std.specs.Fmt.{sign_text}
use Rattle.std.specs.Str.Parse.{AllDigits, digits_value}

pub record Numeral : Type 0 where
  pub negative : Bool
  pub whole : List ℕ
  pub fraction : List ℕ

-- 1 to 9 digits, the first no 0 unless alone
pub record IsWhole (text : List ℕ) : Type 0 where
  pub digits : AllDigits 10 text
  pub some : 1 ≤ length text
  pub few : length text ≤ 9
  pub no_leading_zero : (length text ≡ 1) ⊎ (slice_index text 0 ≢ 48)

-- up to 30 digits
pub record IsFraction (text : List ℕ) : Type 0 where
  pub digits : AllDigits 10 text
  pub few : length text ≤ 30

abbrev pub IsPlain : Numeral → Type 0
IsPlain n = IsWhole n.whole × IsFraction n.fraction

-- nothing, or a point and the digits
abbrev pub behind_point : List ℕ → List ℕ
behind_point [] = []
behind_point (digit ∷ digits) = 46 ∷ digit ∷ digits

-- a minus if negative, the whole part, and the fraction behind a point
abbrev pub spelling : Numeral → List ℕ
spelling n = sign_text n.negative ++ (n.whole ++ behind_point n.fraction)

-- millionths are within half a millionth of digits / unit
abbrev pub IsNear : ℕ → ℕ → ℕ → Type 0
IsNear digits unit millionths =
    (2 * (millionths * unit) ≤ 2 * (digits * 10 ^ 6) + unit) × (2 * (digits * 10 ^ 6) ≤ 2 * (millionths * unit) + unit)

-- of two such, it is the one further from zero
pub record IsNearest (digits unit millionths : ℕ) : Type 0 where
  pub near : IsNear digits unit millionths
  pub farthest : (other : ℕ) → IsNear digits unit other → other ≤ millionths

-- the digits of the whole part and of the fraction, as one number
abbrev pub digits_of : Numeral → ℕ
digits_of n = digits_value 10 (n.whole ++ n.fraction)

-- what that number is to be divided by
abbrev pub unit_of : Numeral → ℕ
unit_of n = 10 ^ length n.fraction

abbrev pub signed : Bool → ℕ → ℤ
signed negative size = if negative then neg_ℤ (pos size) else pos size

-- the numeral is these millionths, rounded half away from zero
abbrev pub IsValue : Numeral → ℤ → Type 0
IsValue n millionths = (size : ℕ) × IsNearest (digits_of n) (unit_of n) size × (millionths ≡ signed n.negative size)
