-- Two and four digits are read where the text spells them.
use Rattle.std.proofs.Common.{◌≡◌, ℕ, ◌+◌, ◌-◌, ◌*◌, ◌/◌, ◌%◌, ◌<◌, Bool, true, false, cond, ◌==◌, List, [], ◌∷◌, ◌++◌, Option, Some, None, refl, ap, ◌∙◌, arith}
use Rattle.std.specs.Char.{is_ascii_digit}
use Rattle.std.proofs.lemmas.Bool.Decides.{nat_tests}
use Rattle.std.proofs.lemmas.Option.{same_Some, none-some, option_and_then_some}
use Rattle.ocpi_json.specs.MomentText.{zero_padded}
use Rattle.ocpi_json.specs.Inner.MomentReading.{read_digit, read_two, read_four, read_two_after}

pub if_passed : {A : Type 0} (b : Bool) (o : Option A) (y : A) → cond b o None ≡ Some y → (b ≡ true) × (o ≡ Some y)
if_passed true o y e = (refl, e)
if_passed false o y e = absurd (none-some y e)

pub digit_test : (n : ℕ) → n < 10 → is_ascii_digit (48 + n) ≡ true
digit_test n h = grind (arith, nat_tests)

pub read_digit-spelled : (text : List ℕ) (p : ℕ × List ℕ) → read_digit text ≡ Some p → (p.0 < 10) × (text ≡ (48 + p.0) ∷ p.1)
unfolding read_digit
read_digit-spelled [] p e = absurd (none-some p e)
read_digit-spelled (b ∷ rest) p e =
    let h = if_passed (is_ascii_digit b) _ p e in
    let n : b - 48 ≡ p.0 = ap (λ q. q.0) (same_Some _ _ h.1) in
    let l : rest ≡ p.1 = ap (λ q. q.1) (same_Some _ _ h.1) in
    let small : (p.0 < 10) × (b ≡ 48 + p.0) = (grind (arith, nat_tests, h.0, n), grind (arith, nat_tests, h.0, n)) in
    (small.0, ap (λ c. c ∷ rest) small.1 ∙ ap (λ l. (48 + p.0) ∷ l) l)

pub read_digit-of : (n : ℕ) (rest : List ℕ) → n < 10 → read_digit ((48 + n) ∷ rest) ≡ Some (n, rest)
unfolding read_digit
read_digit-of n rest h =
    let e : 48 + n - 48 ≡ n = omega arith in
    ap (λ b. cond b (Some (48 + n - 48, rest)) None) (digit_test n h) ∙ ap (λ m. Some (m, rest)) e

pub read_two-spelled : (text : List ℕ) (p : ℕ × List ℕ) → read_two text ≡ Some p → (p.0 < 100) × (text ≡ zero_padded 2 p.0 ++ p.1)
unfolding read_two
read_two-spelled text p e =
    option_and_then_some _ (read_digit text) p e λ tens at_tens after_tens.
    option_and_then_some _ (read_digit tens.1) p after_tens λ ones at_ones last.
    let high = read_digit-spelled text tens at_tens in
    let low = read_digit-spelled tens.1 ones at_ones in
    let n : tens.0 * 10 + ones.0 ≡ p.0 = ap (λ q. q.0) (same_Some _ _ last) in
    let l : ones.1 ≡ p.1 = ap (λ q. q.1) (same_Some _ _ last) in
    let first : 48 + tens.0 ≡ 48 + p.0 / 10 % 10 = omega arith in
    let second : 48 + ones.0 ≡ 48 + p.0 % 10 = omega arith in
    (omega arith, cc)

pub read_two-of : (n : ℕ) (rest : List ℕ) → n < 100 → read_two (zero_padded 2 n ++ rest) ≡ Some (n, rest)
unfolding read_two
read_two-of n rest h =
    rw (read_digit-of (n / 10 % 10) _ (omega arith), read_digit-of (n % 10) rest (omega arith)) (ap (λ m. Some (m, rest)) (omega arith))

pub read_four-spelled : (text : List ℕ) (p : ℕ × List ℕ) → read_four text ≡ Some p → (p.0 < 10_000) × (text ≡ zero_padded 4 p.0 ++ p.1)
unfolding read_four
read_four-spelled text p e =
    option_and_then_some _ (read_two text) p e λ high at_high after_high.
    option_and_then_some _ (read_two high.1) p after_high λ low at_low last.
    let front = read_two-spelled text high at_high in
    let back = read_two-spelled high.1 low at_low in
    let n : high.0 * 100 + low.0 ≡ p.0 = ap (λ q. q.0) (same_Some _ _ last) in
    let l : low.1 ≡ p.1 = ap (λ q. q.1) (same_Some _ _ last) in
    let first : 48 + high.0 / 10 % 10 ≡ 48 + p.0 / 10 / 10 / 10 % 10 = omega arith in
    let second : 48 + high.0 % 10 ≡ 48 + p.0 / 10 / 10 % 10 = omega arith in
    let third : 48 + low.0 / 10 % 10 ≡ 48 + p.0 / 10 % 10 = omega arith in
    let fourth : 48 + low.0 % 10 ≡ 48 + p.0 % 10 = omega arith in
    (omega arith, cc)

-- four digits are two and two
four_by_two : (n : ℕ) (rest : List ℕ) → n < 10_000 → zero_padded 4 n ++ rest ≡ zero_padded 2 (n / 100) ++ (zero_padded 2 (n % 100) ++ rest)
four_by_two n rest h =
    let first : 48 + n / 10 / 10 / 10 % 10 ≡ 48 + n / 100 / 10 % 10 = omega arith in
    let second : 48 + n / 10 / 10 % 10 ≡ 48 + n / 100 % 10 = omega arith in
    let third : 48 + n / 10 % 10 ≡ 48 + n % 100 / 10 % 10 = omega arith in
    let fourth : 48 + n % 10 ≡ 48 + n % 100 % 10 = omega arith in
    cc

pub read_four-of : (n : ℕ) (rest : List ℕ) → n < 10_000 → read_four (zero_padded 4 n ++ rest) ≡ Some (n, rest)
unfolding read_four
read_four-of n rest h =
    rw (four_by_two n rest h, read_two-of (n / 100) _ (omega arith), read_two-of (n % 100) rest (omega arith)) (ap (λ m. Some (m, rest)) (omega arith))

pub read_two_after-spelled : (text : List ℕ) (mark : ℕ) (p : ℕ × List ℕ) → read_two_after text mark ≡ Some p → (p.0 < 100) × (text ≡ mark ∷ (zero_padded 2 p.0 ++ p.1))
unfolding read_two_after
read_two_after-spelled [] mark p e = absurd (none-some p e)
read_two_after-spelled (b ∷ rest) mark p e =
    let h = if_passed (b == mark) _ p e in
    let first : b ≡ mark = grind (arith, nat_tests, h.0) in
    let two = read_two-spelled rest p h.1 in
    (two.0, cc)

pub read_two_after-of : (mark n : ℕ) (rest : List ℕ) → n < 100 → read_two_after (mark ∷ (zero_padded 2 n ++ rest)) mark ≡ Some (n, rest)
unfolding read_two_after
read_two_after-of mark n rest h =
    let e : (mark == mark) ≡ true = grind (arith, nat_tests) in
    ap (λ b. cond b (read_two (zero_padded 2 n ++ rest)) None) e ∙ read_two-of n rest h
