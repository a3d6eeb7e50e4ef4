-- Six decimals as they are written.
use Rattle.std.proofs.Common.{◌≡◌, ℕ, ◌+◌, ◌-◌, ◌/◌, ◌%◌, ◌^◌, ◌<◌, ◌≤◌, inl, inr, List, [], ◌∷◌, ◌++◌, false, decimal, arith, ap, ◌∙◌}
use Rattle.std.proofs.lemmas.Bool.{cases_lt}
use Rattle.std.proofs.lemmas.Fmt.{decimal_digit, decimal_step_wide}
use Rattle.std.specs.Fmt.{padded_integral, styled_decimal, format_spec, char_count}
use Rattle.line_causes.specs.Decimals.{six_digits, energy_text}

two_digits : (n : ℕ) → 10 ≤ n → n < 100 → decimal n ≡ (48 + n / 10) ∷ (48 + n % 10) ∷ []
two_digits n low high = decimal_step_wide n low (omega arith) ∙ ap (λ l. l ++ ((48 + n % 10) ∷ [])) (decimal_digit (n / 10) (omega arith))

three_digits : (n : ℕ) → 100 ≤ n → n < 1000 → decimal n ≡ (48 + n / 10 / 10) ∷ (48 + n / 10 % 10) ∷ (48 + n % 10) ∷ []
three_digits n low high = decimal_step_wide n (omega arith) (omega arith) ∙ ap (λ l. l ++ ((48 + n % 10) ∷ [])) (two_digits (n / 10) (omega arith) (omega arith))

four_digits : (n : ℕ) → 1000 ≤ n → n < 10000 → decimal n ≡ (48 + n / 10 / 10 / 10) ∷ (48 + n / 10 / 10 % 10) ∷ (48 + n / 10 % 10) ∷ (48 + n % 10) ∷ []
four_digits n low high = decimal_step_wide n (omega arith) (omega arith) ∙ ap (λ l. l ++ ((48 + n % 10) ∷ [])) (three_digits (n / 10) (omega arith) (omega arith))

five_digits : (n : ℕ) → 10000 ≤ n → n < 100000
    → decimal n ≡ (48 + n / 10 / 10 / 10 / 10) ∷ (48 + n / 10 / 10 / 10 % 10) ∷ (48 + n / 10 / 10 % 10) ∷ (48 + n / 10 % 10) ∷ (48 + n % 10) ∷ []
five_digits n low high = decimal_step_wide n (omega arith) (omega arith) ∙ ap (λ l. l ++ ((48 + n % 10) ∷ [])) (four_digits (n / 10) (omega arith) (omega arith))

all_digits : (n : ℕ) → 100000 ≤ n → n < 1000000
    → decimal n ≡ (48 + n / 10 / 10 / 10 / 10 / 10) ∷ (48 + n / 10 / 10 / 10 / 10 % 10) ∷ (48 + n / 10 / 10 / 10 % 10) ∷ (48 + n / 10 / 10 % 10) ∷ (48 + n / 10 % 10) ∷ (48 + n % 10) ∷ []
all_digits n low high = decimal_step_wide n (omega arith) (omega arith) ∙ ap (λ l. l ++ ((48 + n % 10) ∷ [])) (five_digits (n / 10) (omega arith) (omega arith))

padded : ℕ → List ℕ
padded n = padded_integral (format_spec 32 0 4 6 (2 ^ 64 - 1)) false [] (decimal n)

same_six : (a b c d e f p q r s t u : ℕ) → a ≡ p → b ≡ q → c ≡ r → d ≡ s → e ≡ t → f ≡ u
    → a ∷ b ∷ c ∷ d ∷ e ∷ f ∷ [] ≡ p ∷ q ∷ r ∷ s ∷ t ∷ u ∷ []
same_six a b c d e f p q r s t u g h i j k l = λ x. g x ∷ h x ∷ i x ∷ j x ∷ k x ∷ l x ∷ []

padded_below : (n : ℕ) → n < 1000000 → padded n ≡ six_digits n
unfolding padded padded_integral char_count
padded_below n small = elim (cases_lt n 10) [
  | inl one ↦ rw (decimal_digit n one) (same_six _ _ _ _ _ _ _ _ _ _ _ _ (omega arith) (omega arith) (omega arith) (omega arith) (omega arith) (omega arith))
  | inr ten ↦ elim (cases_lt n 100) [
    | inl two ↦ rw (two_digits n ten two) (same_six _ _ _ _ _ _ _ _ _ _ _ _ (omega arith) (omega arith) (omega arith) (omega arith) (omega arith) (omega arith))
    | inr hundred ↦ elim (cases_lt n 1000) [
      | inl three ↦ rw (three_digits n hundred three) (same_six _ _ _ _ _ _ _ _ _ _ _ _ (omega arith) (omega arith) (omega arith) (omega arith) (omega arith) (omega arith))
      | inr thousand ↦ elim (cases_lt n 10000) [
        | inl four ↦ rw (four_digits n thousand four) (same_six _ _ _ _ _ _ _ _ _ _ _ _ (omega arith) (omega arith) (omega arith) (omega arith) (omega arith) (omega arith))
        | inr more ↦ elim (cases_lt n 100000) [
          | inl five ↦ rw (five_digits n more five) (same_six _ _ _ _ _ _ _ _ _ _ _ _ (omega arith) (omega arith) (omega arith) (omega arith) (omega arith) (omega arith))
          | inr six ↦ rw (all_digits n six small) (same_six _ _ _ _ _ _ _ _ _ _ _ _ (omega arith) (omega arith) (omega arith) (omega arith) (omega arith) (omega arith))
        ]
      ]
    ]
  ]
]

padded_is : (n : ℕ) → padded (n % 1000000) ≡ six_digits n
padded_is n =
    padded_below (n % 1000000) (omega arith)
    ∙ same_six _ _ _ _ _ _ _ _ _ _ _ _ (omega arith) (omega arith) (omega arith) (omega arith) (omega arith) (omega arith)

-- the pieces that are written make the text
pub written : (n : ℕ) (decimals : List ℕ) → decimals ≡ styled_decimal (format_spec 32 0 4 6 (2 ^ 64 - 1)) (n % 1000000)
    → decimal (n / 1000000) ++ (46 ∷ decimals) ≡ energy_text n
unfolding energy_text padded
written n decimals d = ap (λ l. decimal (n / 1000000) ++ (46 ∷ l)) (d ∙ padded_is n)
