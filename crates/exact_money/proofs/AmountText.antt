-- The four decimals, and the text read back.
use Rattle.std.proofs.Common.{sym, ◌*◌, ◌≡◌, ℕ, ◌+◌, ◌-◌, ◌/◌, ◌%◌, ◌^◌, ◌<◌, ◌≤◌, ◌⊎◌, ◌≢◌, inl, inr, List, [], ◌∷◌, ◌++◌, Bool, true, false, decimal, drop, length, length-drop, get_or, set, arith, ap, ◌∙◌, refl, ℤ}
use Rattle.std.proofs.lemmas.Bool.{cases_lt}
use Rattle.std.proofs.lemmas.Bool.Decides.{nat_tests}
use Rattle.std.proofs.lemmas.List.{drop_all, drop-drop, drop-set}
use Rattle.std.proofs.lemmas.Str.{IsAscii-append}
use Rattle.std.proofs.lemmas.Str.Ascii.{IsAscii-nil, IsAscii-cons}
use Rattle.std.specs.Str.{IsAscii}
use Rattle.std.proofs.lemmas.Fmt.{IsAscii-decimal, decimal_digit, decimal_step_wide, decimal_is_IsNumeral_wide, first_decimal, decimal-digits_value}
use Rattle.std.proofs.lemmas.Str.Parse.{numerals_by_value, tells_digits}
use Rattle.std.specs.Char.{digit_value}
use Rattle.std.specs.Fmt.{padded_integral, styled_decimal, format_spec, char_count, sign_text}
use Rattle.std.specs.Int.{is_negative}
use Rattle.std.specs.Prelude.{unsigned_abs}
use Rattle.std.specs.Str.Parse.{AllDigits, digits_value, digits_value_after}
use Rattle.exact_money.specs.Amount.{four_digits, amount_text, IsTextOf}
use Rattle.exact_money.proofs.Rounding.{after_append, digit_is, digit_range}

-- ---- the decimals as they are written

two_digits : (n : ℕ) → 10 ≤ n → n < 100 → decimal n ≡ (48 + n / 10) ∷ (48 + n % 10) ∷ []
two_digits n low high = decimal_step_wide n low (omega arith) ∙ ap (λ l. l ++ ((48 + n % 10) ∷ [])) (decimal_digit (n / 10) (omega arith))

three_digits : (n : ℕ) → 100 ≤ n → n < 1000 → decimal n ≡ (48 + n / 10 / 10) ∷ (48 + n / 10 % 10) ∷ (48 + n % 10) ∷ []
three_digits n low high = decimal_step_wide n (omega arith) (omega arith) ∙ ap (λ l. l ++ ((48 + n % 10) ∷ [])) (two_digits (n / 10) (omega arith) (omega arith))

all_digits : (n : ℕ) → 1000 ≤ n → n < 10000 → decimal n ≡ (48 + n / 10 / 10 / 10) ∷ (48 + n / 10 / 10 % 10) ∷ (48 + n / 10 % 10) ∷ (48 + n % 10) ∷ []
all_digits n low high = decimal_step_wide n (omega arith) (omega arith) ∙ ap (λ l. l ++ ((48 + n % 10) ∷ [])) (three_digits (n / 10) (omega arith) (omega arith))

pub padded : ℕ → List ℕ
padded n = padded_integral (format_spec 32 0 4 4 (2 ^ 64 - 1)) false [] (decimal n)

same_four : (a b c d e f g h : ℕ) → a ≡ e → b ≡ f → c ≡ g → d ≡ h → a ∷ b ∷ c ∷ d ∷ [] ≡ e ∷ f ∷ g ∷ h ∷ []
same_four a b c d e f g h p q r s = λ i. p i ∷ q i ∷ r i ∷ s i ∷ []

padded_below : (n : ℕ) → n < 10000 → padded n ≡ four_digits n
unfolding padded padded_integral char_count
padded_below n small = elim (cases_lt n 10) [
  | inl one ↦ rw (decimal_digit n one) (same_four _ _ _ _ _ _ _ _ (omega arith) (omega arith) (omega arith) (omega arith))
  | inr ten ↦ elim (cases_lt n 100) [
    | inl two ↦ rw (two_digits n ten two) (same_four _ _ _ _ _ _ _ _ (omega arith) (omega arith) (omega arith) (omega arith))
    | inr hundred ↦ elim (cases_lt n 1000) [
      | inl three ↦ rw (three_digits n hundred three) (same_four _ _ _ _ _ _ _ _ (omega arith) (omega arith) (omega arith) (omega arith))
      | inr thousand ↦ rw (all_digits n thousand small) (same_four _ _ _ _ _ _ _ _ (omega arith) (omega arith) (omega arith) (omega arith))
    ]
  ]
]

pub padded_is : (n : ℕ) → padded (n % 10000) ≡ four_digits n
padded_is n = padded_below (n % 10000) (omega arith) ∙ same_four _ _ _ _ _ _ _ _ (omega arith) (omega arith) (omega arith) (omega arith)

same_five : (a b c d e v w x y z : ℕ) → a ≡ v → b ≡ w → c ≡ x → d ≡ y → e ≡ z → a ∷ b ∷ c ∷ d ∷ e ∷ [] ≡ v ∷ w ∷ x ∷ y ∷ z ∷ []
same_five a b c d e v w x y z p q r s t = λ i. p i ∷ q i ∷ r i ∷ s i ∷ t i ∷ []

-- with a one before them, four decimals keep their zeros
pub one_before : (n : ℕ) → decimal (10000 + n % 10000) ≡ 49 ∷ four_digits n
one_before n =
    let m : ℕ = 10000 + n % 10000 in
    decimal_step_wide m (omega arith) (omega arith) ∙ ap (λ l. l ++ ((48 + m % 10) ∷ [])) (all_digits (m / 10) (omega arith) (omega arith))
    ∙ same_five _ _ _ _ _ _ _ _ _ _ (omega arith) (omega arith) (omega arith) (omega arith) (omega arith)

-- the text with the point in the place of that one
pub point_placed : (n start : ℕ) (old new : List ℕ) → length old ≡ 24 → start + length (decimal (10000 + n % 10000)) ≡ 24
    → drop start new ≡ decimal (10000 + n % 10000) ++ drop 24 old → drop 19 (set new 19 46) ≡ 46 ∷ four_digits n
point_placed n start old new long ends written =
    let five = ap length (one_before n) in
    let at : start ≡ 19 = omega (arith, five, ends) in
    let none : drop 24 old ≡ [] = drop_all 24 old (omega (arith, long)) in
    let from : drop 19 new ≡ 49 ∷ four_digits n = ap (λ k. drop k new) (sym at) ∙ written ∙ (λ i. one_before n i ++ none i) in
    drop-set new 19 46 (omega (arith, ap length from, length-drop 19 new)) ∙ ap (λ l. 46 ∷ l) (sym (drop-drop 1 19 new) ∙ ap (drop 1) from)

-- the parts of the text, by the sign
pub negative_text : (amount : ℤ) (size : ℕ) → size ≡ unsigned_abs amount → is_negative amount ≡ true → 45 ∷ (decimal (size / 10000) ++ (46 ∷ four_digits size)) ≡ amount_text amount
unfolding amount_text
negative_text amount size s n = λ i. sign_text (sym n i) ++ (decimal (s i / 10000) ++ (46 ∷ four_digits (s i)))

pub positive_text : (amount : ℤ) (size : ℕ) → size ≡ unsigned_abs amount → is_negative amount ≡ false → decimal (size / 10000) ++ (46 ∷ four_digits size) ≡ amount_text amount
unfolding amount_text
positive_text amount size s n = λ i. sign_text (sym n i) ++ (decimal (s i / 10000) ++ (46 ∷ four_digits (s i)))

IsAscii-sign : (negative : Bool) → IsAscii (sign_text negative)
IsAscii-sign true = IsAscii-cons 45 [] (omega arith) IsAscii-nil
IsAscii-sign false = IsAscii-nil

IsAscii-four : (n : ℕ) → IsAscii (four_digits n)
IsAscii-four n =
    IsAscii-cons (48 + n / 1000 % 10) ((48 + n / 100 % 10) ∷ (48 + n / 10 % 10) ∷ (48 + n % 10) ∷ []) (omega arith)
    (IsAscii-cons (48 + n / 100 % 10) ((48 + n / 10 % 10) ∷ (48 + n % 10) ∷ []) (omega arith)
    (IsAscii-cons (48 + n / 10 % 10) ((48 + n % 10) ∷ []) (omega arith) (IsAscii-cons (48 + n % 10) [] (omega arith) IsAscii-nil)))

pub IsAscii-amount : (amount : ℤ) (size : ℕ) → size ≡ unsigned_abs amount → size < 2 ^ 64 → IsAscii (amount_text amount)
unfolding amount_text
IsAscii-amount amount size is small =
    IsAscii-append (sign_text (is_negative amount)) _ (IsAscii-sign (is_negative amount))
    (IsAscii-append (decimal (unsigned_abs amount / 10000)) _ (IsAscii-decimal (unsigned_abs amount / 10000) (omega (arith, is, small)))
    (IsAscii-cons 46 (four_digits (unsigned_abs amount)) (omega arith) (IsAscii-four (unsigned_abs amount))))

-- the pieces that are written make the text
pub written : (amount : ℤ) (sign decimals : List ℕ) (size : ℕ) → sign ≡ sign_text (is_negative amount) → size ≡ unsigned_abs amount
    → decimals ≡ styled_decimal (format_spec 32 0 4 4 (2 ^ 64 - 1)) (size % 10000)
    → sign ++ (decimal (size / 10000) ++ (46 ∷ decimals)) ≡ amount_text amount
unfolding amount_text padded
written amount sign decimals size s n d =
    ap (λ l. sign ++ (decimal (size / 10000) ++ (46 ∷ l))) d
    ∙ (λ i. s i ++ (decimal (n i / 10000) ++ (46 ∷ padded (n i % 10000))))
    ∙ ap (λ l. sign_text (is_negative amount) ++ (decimal (unsigned_abs amount / 10000) ++ (46 ∷ l))) (padded_is (unsigned_abs amount))

-- ---- the text read back

digit_value_is : (d : ℕ) → d < 10 → digit_value (48 + d) ≡ d
digit_value_is d h = grind (arith, nat_tests)

cell : (c : ℕ) → digit_value c < 10 → c ≡ 48 + digit_value c
cell c h = let r = digit_range c h in let is = digit_is c h in omega arith

digit_small : (d : ℕ) → d < 10 → digit_value (48 + d) < 10
digit_small d h = omega (arith, digit_value_is d h)

leading : (n : ℕ) → n < 2 ^ 64 → (length (decimal n) ≡ 1) ⊎ (get_or (decimal n) 0 0 ≢ 48)
leading n small = elim (cases_lt 0 n) [
  | inl some ↦ let first = first_decimal n some small in inr (λ e. omega (arith, first, e))
  | inr none ↦ inl (ap length (decimal_digit n (omega arith)))
]

four_value : (w n : ℕ) → w ≡ n / 10000 → digits_value_after 10 w (four_digits n) ≡ n
four_value w n e =
    let a = digit_value_is (n / 1000 % 10) (omega arith) in
    let b = digit_value_is (n / 100 % 10) (omega arith) in
    let c = digit_value_is (n / 10 % 10) (omega arith) in
    let d = digit_value_is (n % 10) (omega arith) in
    omega (arith, a, b, c, d, e)

four_small : (n : ℕ) → AllDigits 10 (four_digits n)
four_small n =
    (digit_small (n / 1000 % 10) (omega arith), (digit_small (n / 100 % 10) (omega arith), (digit_small (n / 10 % 10) (omega arith), (digit_small (n % 10) (omega arith), tt))))

pub read_back : (amount : ℤ) → unsigned_abs amount ≤ 2 ^ 63 → IsTextOf amount (amount_text amount)
unfolding amount_text
read_back amount small =
    let n : ℕ = unsigned_abs amount in
    let w : ℕ = n / 10000 in
    let numeral = decimal_is_IsNumeral_wide w (omega arith) in
    record {
      whole = decimal w;
      decimals = four_digits n;
      spelled = refl;
      whole_digits = numeral.0;
      no_leading_zero = leading w (omega arith);
      decimal_digits = four_small n;
      four = refl;
      value = after_append 0 (decimal w) (four_digits n) ∙ four_value (digits_value 10 (decimal w)) n numeral.1;
    }

-- ---- no other text reads so

four_cells : (ds : List ℕ) (w n : ℕ) → length ds ≡ 4 → AllDigits 10 ds → digits_value_after 10 w ds ≡ n → (ds ≡ four_digits n) × (w ≡ n / 10000)
four_cells [] w n four h e = absurd (omega arith)
four_cells (a ∷ []) w n four h e = absurd (omega arith)
four_cells (a ∷ b ∷ []) w n four h e = absurd (omega arith)
four_cells (a ∷ b ∷ c ∷ []) w n four h e = absurd (omega arith)
four_cells (a ∷ b ∷ c ∷ d ∷ []) w n four h e =
    let p = cell a h.0 in let q = cell b h.1.0 in let r = cell c h.1.1.0 in let s = cell d h.1.1.1.0 in
    let value : w * 10000 + digit_value a * 1000 + digit_value b * 100 + digit_value c * 10 + digit_value d ≡ n = omega (arith, e) in (
      same_four a b c d _ _ _ _ (omega (arith, value, p, h.0, h.1.0, h.1.1.0, h.1.1.1.0)) (omega (arith, value, q, h.1.0, h.1.1.0, h.1.1.1.0))
          (omega (arith, value, r, h.1.1.0, h.1.1.1.0)) (omega (arith, value, s, h.1.1.1.0)),
      omega (arith, value, h.0, h.1.0, h.1.1.0, h.1.1.1.0),
    )
four_cells (a ∷ b ∷ c ∷ d ∷ x ∷ ds) w n four h e = absurd (omega arith)

alone : (ds : List ℕ) → (length ds ≡ 1) ⊎ (get_or ds 0 0 ≢ 48) → get_or ds 0 0 ≡ 48 → length ds ≡ 1
alone ds h e = elim h [ inl one ↦ one | inr other ↦ absurd (other e) ]

pub only_text : (amount : ℤ) (text : List ℕ) → unsigned_abs amount ≤ 2 ^ 63 → IsTextOf amount text → text ≡ amount_text amount
unfolding amount_text
only_text amount text small h =
    let cells = four_cells h.decimals (digits_value 10 h.whole) (unsigned_abs amount) h.four h.decimal_digits (sym (after_append 0 h.whole h.decimals) ∙ h.value) in
    let kept = decimal-digits_value (numerals_by_value _ tells_digits) h.whole h.whole_digits.1 h.whole_digits.0 (alone h.whole h.no_leading_zero) (omega (arith, cells.1)) in
    let whole : h.whole ≡ decimal (unsigned_abs amount / 10000) = sym kept ∙ ap decimal cells.1 in
    h.spelled ∙ (λ i. sign_text (is_negative amount) ++ (whole i ++ (46 ∷ cells.0 i)))
