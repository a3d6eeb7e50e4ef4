-- Rounding by the digit behind the sixth.
use Rattle.std.proofs.Common.{◌≡◌, ℕ, zero, suc, ◌+◌, ◌-◌, ◌*◌, ◌^◌, ◌<◌, ◌≤◌, inl, inr, List, [], ◌∷◌, ◌++◌, length, take, drop, get_or, arith, sym, ap, subst, ◌∙◌, refl, add-one, length-append, lit<, pow-add}
use Rattle.std.proofs.lemmas.Int.Digits.{digits_value-lt}
use Rattle.std.proofs.lemmas.Bool.{cases_lt}
use Rattle.std.proofs.lemmas.Bool.Decides.{nat_tests}
use Rattle.std.proofs.Math.Nat.{mul-le-mul_left, mul-le-mul_right, pow-le-pow_right, pow-suc, one-le-pow}
use Rattle.std.proofs.lemmas.List.{take-append-drop}
use Rattle.std.specs.Char.{digit_value}
use Rattle.std.specs.Str.Parse.{AllDigits, digits_value, digits_value_after}
use Rattle.exact_money.specs.Numeral.{IsNearest}

-- what no greater number can be is at most m
at_most : (k m : ℕ) → (m < k → ⊥) → k ≤ m
at_most k m h = elim (cases_lt m k) [ inl lt ↦ absurd (h lt) | inr le ↦ le ]

regroup : (a b c : ℕ) → a * b * c ≡ a * (b * c)
regroup a b c = omega arith

-- a number of at most six places is exact
pub exact_nearest : (digits unit m p : ℕ) → p * unit ≡ 1000000 → m ≡ digits * p → 0 < unit → IsNearest digits unit m
exact_nearest digits unit m p power e positive =
    let same : m * unit ≡ digits * 1000000 = ap (λ x. x * unit) e ∙ regroup digits p unit ∙ ap (λ x. digits * x) power in
    record {
      near = (omega (arith, same), omega (arith, same));
      farthest = λ k h. at_most k m (λ lt. let more = mul-le-mul_right unit lt in omega (arith, more, same, h.0));
    }

-- the seventh digit behind the point decides
pub up_nearest : (head digit rest p : ℕ) → rest < p → digit < 10 → 5 ≤ digit → IsNearest ((head * 10 + digit) * p + rest) (10000000 * p) (head + 1)
up_nearest head digit rest p small d half =
    let low = mul-le-mul_right p half in
    let le9 : digit ≤ 9 = omega arith in
    let high = mul-le-mul_right p le9 in
    record {
      near = (omega (arith, low), omega (arith, high));
      farthest = λ k h. at_most k (head + 1) (λ lt. let more = mul-le-mul_right p lt in omega (arith, more, high, h.0));
    }

pub down_nearest : (head digit rest p : ℕ) → rest < p → digit < 5 → IsNearest ((head * 10 + digit) * p + rest) (10000000 * p) head
down_nearest head digit rest p small d =
    let le4 : digit ≤ 4 = omega arith in
    let high = mul-le-mul_right p le4 in
    record {
      near = (omega arith, omega (arith, high));
      farthest = λ k h. at_most k head (λ lt. let more = mul-le-mul_right p lt in omega (arith, more, high, h.0));
    }

-- ---- digits

pub power_more : (i : ℕ) → 10 ^ (i + 1) ≡ 10 ^ i * 10
power_more i = rw add-one (pow-suc 10 i)

pub digit_at : (xs : List ℕ) (i : ℕ) → AllDigits 10 xs → i < length xs → digit_value (get_or xs i 0) < 10
digit_at [] i h l = absurd (omega arith)
digit_at (x ∷ xs) zero h l = h.0
digit_at (x ∷ xs) (suc i) h l = digit_at xs i h.1 (omega arith)

pub digit_range : (c : ℕ) → digit_value c < 10 → (48 ≤ c) × (c < 58)
digit_range c h = (grind (arith, nat_tests), grind (arith, nat_tests))

pub digit_is : (c : ℕ) → digit_value c < 10 → digit_value c ≡ c - 48
digit_is c h = grind (arith, nat_tests)

pub after_append : (n : ℕ) (xs ys : List ℕ) → digits_value_after 10 n (xs ++ ys) ≡ digits_value_after 10 (digits_value_after 10 n xs) ys
after_append n [] ys = refl
after_append n (x ∷ xs) ys = after_append (n * 10 + digit_value x) xs ys

-- n, and then the digits
pub after_is : (n : ℕ) (xs : List ℕ) → digits_value_after 10 n xs ≡ n * 10 ^ length xs + digits_value 10 xs
after_is n [] = omega arith
after_is n (x ∷ xs) =
    let power = ap (λ t. n * t) (pow-suc 10 (length xs)) in
    let middle : (n * 10 + digit_value x) * 10 ^ length xs + digits_value 10 xs ≡ n * 10 ^ suc (length xs) + ((0 + digit_value x) * 10 ^ length xs + digits_value 10 xs) = omega (arith, power) in
    after_is (n * 10 + digit_value x) xs ∙ middle ∙ ap (λ v. n * 10 ^ suc (length xs) + v) (sym (after_is (0 + digit_value x) xs))

pub bound_step : (n i value d : ℕ) → value < (n + 1) * 10 ^ i → d < 10 → value * 10 + d < (n + 1) * 10 ^ (i + 1)
bound_step n i value d h l = rw power_more (omega (arith, regroup (n + 1) (10 ^ i) 10))

pub bound_fits : (n i len : ℕ) → i ≤ len → (n + 1) * 10 ^ i ≤ (n + 1) * 10 ^ len
bound_fits n i len h = mul-le-mul_left (n + 1) (pow-le-pow_right (omega arith) h)

-- ---- the parts of a fraction

pub head_bound : (w lw lf : ℕ) → w < (0 + 1) * 10 ^ lw → lw ≤ 9 → lf ≤ 6 → (w + 1) * 10 ^ lf ≤ 1000000000000000
head_bound w lw lf h a b =
    let nine : 10 ^ lw ≤ 10 ^ 9 = pow-le-pow_right (lit< tt) a in
    let six : 10 ^ lf ≤ 10 ^ 6 = pow-le-pow_right (lit< tt) b in
    let w_small : w + 1 ≤ 1000000000 = omega (arith, nine) in
    omega (arith, mul-le-mul_right (10 ^ lf) w_small, mul-le-mul_left 1000000000 six)

pub product_bound : (head w lw lf p : ℕ) → w < (0 + 1) * 10 ^ lw → lw ≤ 9 → head < (w + 1) * 10 ^ lf → p * 10 ^ lf ≡ 1000000 → head * p ≤ 1000000000000000
product_bound head w lw lf p h a b power =
    let nine : 10 ^ lw ≤ 10 ^ 9 = pow-le-pow_right (lit< tt) a in
    let w_small : w + 1 ≤ 1000000000 = omega (arith, nine) in
    let le : head ≤ (w + 1) * 10 ^ lf = omega arith in
    let scaled = mul-le-mul_right p le in
    let unit : (w + 1) * 10 ^ lf * p ≡ (w + 1) * 1000000 = omega (arith, ap (λ t. (w + 1) * t) power) in
    omega (arith, scaled, unit)

all_digits_back : (xs ys : List ℕ) → AllDigits 10 (xs ++ ys) → AllDigits 10 ys
all_digits_back [] ys h = h
all_digits_back (x ∷ xs) ys h = all_digits_back xs ys h.1

pub all_digits_front : (xs ys : List ℕ) → AllDigits 10 (xs ++ ys) → AllDigits 10 xs
all_digits_front [] ys h = tt
all_digits_front (x ∷ xs) ys h = (h.0, all_digits_front xs ys h.1)

-- what stands before and behind the seventh digit
pub record Cut (whole front fraction rest : List ℕ) (head digit : ℕ) : Type 0 where
  pub head_is : head ≡ digits_value_after 10 (digits_value_after 10 0 whole) front
  pub fraction_is : fraction ≡ front ++ (digit ∷ rest)
  pub six : length front ≡ 6
  pub digits : AllDigits 10 fraction

value_is : (whole front fraction rest : List ℕ) (head digit : ℕ) → Cut whole front fraction rest head digit
    → digits_value 10 (whole ++ fraction) ≡ (head * 10 + digit_value digit) * 10 ^ length rest + digits_value 10 rest
value_is whole front fraction rest head digit c =
    after_append 0 whole fraction ∙ ap (digits_value_after 10 (digits_value_after 10 0 whole)) c.fraction_is
    ∙ after_append (digits_value_after 10 0 whole) front (digit ∷ rest) ∙ ap (λ h. digits_value_after 10 h (digit ∷ rest)) (sym c.head_is)
    ∙ after_is (head * 10 + digit_value digit) rest

unit_is : (whole front fraction rest : List ℕ) (head digit : ℕ) → Cut whole front fraction rest head digit → 10 ^ length fraction ≡ 10000000 * 10 ^ length rest
unit_is whole front fraction rest head digit c =
    let len : length fraction ≡ 7 + length rest = omega (arith, ap length c.fraction_is, length-append front (digit ∷ rest), c.six) in
    ap (λ k. 10 ^ k) len ∙ pow-add 10 7 (length rest)

digit_small : (whole front fraction rest : List ℕ) (head digit : ℕ) → Cut whole front fraction rest head digit → AllDigits 10 (digit ∷ rest)
digit_small whole front fraction rest head digit c = all_digits_back front (digit ∷ rest) (subst (AllDigits 10) c.fraction_is c.digits)

pub up_whole : (whole front fraction rest : List ℕ) (head digit : ℕ) → Cut whole front fraction rest head digit → 53 ≤ digit
    → IsNearest (digits_value 10 (whole ++ fraction)) (10 ^ length fraction) (head + 1)
up_whole whole front fraction rest head digit c half =
    let d = digit_small whole front fraction rest head digit c in
    let least : 5 ≤ digit_value digit = omega (arith, digit_is digit d.0) in
    subst (λ x. IsNearest x (10 ^ length fraction) (head + 1)) (sym (value_is whole front fraction rest head digit c))
    (subst (λ u. IsNearest ((head * 10 + digit_value digit) * 10 ^ length rest + digits_value 10 rest) u (head + 1)) (sym (unit_is whole front fraction rest head digit c))
    (up_nearest head (digit_value digit) (digits_value 10 rest) (10 ^ length rest) (digits_value-lt 10 rest d.1) d.0 least))

pub down_whole : (whole front fraction rest : List ℕ) (head digit : ℕ) → Cut whole front fraction rest head digit → digit < 53
    → IsNearest (digits_value 10 (whole ++ fraction)) (10 ^ length fraction) head
down_whole whole front fraction rest head digit c half =
    let d = digit_small whole front fraction rest head digit c in
    let most : digit_value digit < 5 = omega (arith, digit_is digit d.0) in
    subst (λ x. IsNearest x (10 ^ length fraction) head) (sym (value_is whole front fraction rest head digit c))
    (subst (λ u. IsNearest ((head * 10 + digit_value digit) * 10 ^ length rest + digits_value 10 rest) u head) (sym (unit_is whole front fraction rest head digit c))
    (down_nearest head (digit_value digit) (digits_value 10 rest) (10 ^ length rest) (digits_value-lt 10 rest d.1) most))

pub short_whole : (whole front fraction : List ℕ) (head p : ℕ) → head ≡ digits_value_after 10 (digits_value_after 10 0 whole) front → fraction ≡ front → p * 10 ^ length front ≡ 1000000
    → IsNearest (digits_value 10 (whole ++ fraction)) (10 ^ length fraction) (head * p)
short_whole whole front fraction head p h e power =
    let value : digits_value 10 (whole ++ fraction) ≡ head = after_append 0 whole fraction ∙ ap (digits_value_after 10 (digits_value_after 10 0 whole)) e ∙ sym h in
    let power' : p * 10 ^ length fraction ≡ 1000000 = ap (λ l. p * 10 ^ length l) e ∙ power in
    exact_nearest (digits_value 10 (whole ++ fraction)) (10 ^ length fraction) (head * p) p power' (ap (λ x. x * p) (sym value)) (one-le-pow (length fraction) 10 (lit< tt))

pub empty_from_length : (l : List ℕ) → length l ≡ 0 → l ≡ []
empty_from_length [] h = refl
empty_from_length (x ∷ l) h = absurd (omega arith)

-- the two parts of a list
pub parts : (k : ℕ) (l front back : List ℕ) → front ≡ take k l → back ≡ drop k l → l ≡ front ++ back
parts k l front back f b = sym (take-append-drop k l) ∙ ap (λ x. x ++ drop k l) (sym f) ∙ ap (λ x. front ++ x) (sym b)
