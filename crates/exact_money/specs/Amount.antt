-- The text of an amount.
use Rattle.std.specs.Prelude.{◌≡◌, ℕ, ◌+◌, ◌/◌, ◌%◌, ◌^◌, ◌≤◌, ◌⊎◌, ◌≢◌, ◌↔◌, List, [], ◌∷◌, ◌++◌, length, slice_index, ℤ, unsigned_abs, decimal}
use Rattle.std.specs.Fmt.{sign_text}
use Rattle.std.specs.Int.{is_negative}
use Rattle.std.specs.Str.Parse.{IsNumeral, AllDigits, digits_value}

-- the last four digits of a number
abbrev pub four_digits : ℕ → List ℕ
four_digits n = (48 + n / 1000 % 10) ∷ (48 + n / 100 % 10) ∷ (48 + n / 10 % 10) ∷ (48 + n % 10) ∷ []

-- a minus if below 0, the whole part, a point and four decimals: -50000 is `-5.0000`
unfoldable pub amount_text : ℤ → List ℕ
amount_text amount = sign_text (is_negative amount) ++ (decimal (unsigned_abs amount / 10000) ++ (46 ∷ four_digits (unsigned_abs amount)))

-- the text is a minus if the amount is below 0, whole digits, a point and four digits, and these digits are the amount's size
pub record IsTextOf (amount : ℤ) (text : List ℕ) : Type 0 where
  pub whole : List ℕ
  pub decimals : List ℕ
  pub spelled : text ≡ sign_text (is_negative amount) ++ (whole ++ (46 ∷ decimals))
  pub whole_digits : IsNumeral 10 whole
  pub no_leading_zero : (length whole ≡ 1) ⊎ (slice_index whole 0 ≢ 48)
  pub decimal_digits : AllDigits 10 decimals
  pub four : length decimals ≡ 4
  pub value : digits_value 10 (whole ++ decimals) ≡ unsigned_abs amount

-- at 64 bits the text of an amount is such a text, and no other is
abbrev pub AmountTextReadsBack : Type 0
AmountTextReadsBack = (amount : ℤ) (text : List ℕ) → unsigned_abs amount ≤ 2 ^ 63 → (text ≡ amount_text amount) ↔ IsTextOf amount text
