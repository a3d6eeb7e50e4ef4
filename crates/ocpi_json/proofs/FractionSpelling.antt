-- A fraction of a second is read where the text spells it.
use Rattle.std.proofs.Common.{◌≡◌, ℕ, zero, suc, ◌+◌, ◌-◌, ◌*◌, ◌/◌, ◌%◌, ◌^◌, ◌<◌, ◌≤◌, Bool, true, false, cond, ◌==◌, ◌&&◌, inl, inr, List, [], ◌∷◌, ◌++◌, Option, Some, None, refl, ap, sym, ◌∙◌, arith}
use Rattle.std.specs.Prelude.{nat_lt, option_map}
use Rattle.std.specs.Char.{is_ascii_digit}
use Rattle.std.proofs.lemmas.Bool.Decides.{nat_tests}
use Rattle.std.proofs.lemmas.Option.{same_Some, none-some}
use Rattle.std.proofs.lemmas.Nat.{pow-add, mul-add-lt, div_below, mod_below, div-add-mod'}
use Rattle.std.proofs.Math.Nat.{pow-suc, one-le-pow}
use Rattle.ocpi_json.specs.MomentText.{zero_padded, SpellsFraction}
use Rattle.ocpi_json.specs.Inner.MomentReading.{read_digit, digits_from, read_fraction}
use Rattle.ocpi_json.proofs.DigitSpelling.{digit_test, read_digit-spelled, read_digit-of}

power_more : (k : ℕ) → 10 ^ suc k ≡ 10 * 10 ^ k
power_more k = pow-suc 10 k ∙ omega arith

-- a digit in front of k further ones
zero_padded-head : (k d n : ℕ) → d < 10 → n < 10 ^ k → zero_padded (suc k) (d * 10 ^ k + n) ≡ (48 + d) ∷ zero_padded k n
zero_padded-head zero d n h small = let e : (d * 10 ^ 0 + n) % 10 ≡ d = omega arith in ap (λ m. (48 + m) ∷ []) e
zero_padded-head (suc k) d n h small =
    let more = power_more k in
    let high : d * 10 ^ suc k ≡ 10 * (d * 10 ^ k) = ap (λ p. d * p) more ∙ omega arith in
    let quotient : (d * 10 ^ suc k + n) / 10 ≡ d * 10 ^ k + n / 10 = omega arith in
    let remainder : (d * 10 ^ suc k + n) % 10 ≡ n % 10 = omega arith in
    let rest = zero_padded-head k d (n / 10) h (omega arith) in
    ap (λ m. zero_padded (suc k) m ++ (48 + (d * 10 ^ suc k + n) % 10) ∷ []) quotient
    ∙ ap (λ m. zero_padded (suc k) (d * 10 ^ k + n / 10) ++ (48 + m) ∷ []) remainder
    ∙ ap (λ l. l ++ (48 + n % 10) ∷ []) rest

-- the first digit counts so much where so many may follow the point
abbrev IsWeight : ℕ → ℕ → Type 0
IsWeight room weight = weight ≡ 10 ^ room / 10

next_weight : (room weight : ℕ) → IsWeight (suc room) weight → (weight ≡ 10 ^ room) × IsWeight room (weight / 10)
next_weight room weight e =
    let more = power_more room in
    let w : weight ≡ 10 ^ room = omega arith in
    (w, ap (λ n. n / 10) w)

-- what is read of a text: so many digits of n, and what they count where room digits may follow the point
record IsDigits (room places n : ℕ) (text : List ℕ) (p : ℕ × List ℕ) : Type 0 where
  fits : places ≤ room
  small : n < 10 ^ places
  spelled : text ≡ zero_padded places n ++ p.1
  value : p.0 ≡ n * 10 ^ (room - places)

one_more : (room places n d weight : ℕ) (text : List ℕ) (p : ℕ × List ℕ) → d < 10 → IsWeight (suc room) weight → IsDigits room places n text p
    → IsDigits (suc room) (suc places) (d * 10 ^ places + n) ((48 + d) ∷ text) (d * weight + p.0, p.1)
one_more room places n d weight text p digit is_weight digits =
    let f = digits.fits in
    let v = digits.value in
    let more = power_more places in
    let w = (next_weight room weight is_weight).0 in
    let left : suc room - suc places ≡ room - places = omega arith in
    let split : 10 ^ room ≡ 10 ^ places * 10 ^ (room - places) = ap (λ m. 10 ^ m) (omega arith) ∙ pow-add 10 places (room - places) in
    let high : d * weight ≡ d * (10 ^ places * 10 ^ (room - places)) = ap (λ m. d * m) (w ∙ split) in
    record {
      fits = omega arith;
      small = let s = mul-add-lt d (10 ^ places) n 10 digit digits.small in omega arith;
      spelled = ap (λ l. (48 + d) ∷ l) digits.spelled ∙ ap (λ l. l ++ p.1) (sym (zero_padded-head places d n digit digits.small));
      value = rw left (omega arith);
    }

no_more : (room : ℕ) (text : List ℕ) → IsDigits room 0 0 text (0, text)
no_more room text = record { fits = omega arith; small = omega arith; spelled = refl; value = omega arith }

abbrev AnyDigits : ℕ → List ℕ → ℕ × List ℕ → Type 0
AnyDigits room text p = (places n : ℕ) × IsDigits room places n text p

as_digit : (b : ℕ) → is_ascii_digit b ≡ true → (b - 48 < 10) × (48 + (b - 48) ≡ b)
as_digit b h = (grind (arith, nat_tests), grind (arith, nat_tests))

digits_from-spelled : (text : List ℕ) (room weight : ℕ) → IsWeight room weight → AnyDigits room text (digits_from weight text)
unfolding digits_from
digits_from-spelled [] room weight e = (0, 0, no_more room [])
digits_from-spelled (b ∷ rest) room weight e = by_test (is_ascii_digit b) (nat_lt 0 weight) refl refl room e (λ r h. digits_from-spelled rest r (weight / 10) h)
  where
    by_test : (digit some : Bool) → is_ascii_digit b ≡ digit → nat_lt 0 weight ≡ some → (room : ℕ) → IsWeight room weight
        → ((r : ℕ) → IsWeight r (weight / 10) → AnyDigits r rest (digits_from (weight / 10) rest))
        → AnyDigits room (b ∷ rest) (cond (digit && some) ((b - 48) * weight + (digits_from (weight / 10) rest).0, (digits_from (weight / 10) rest).1) (0, b ∷ rest))
    by_test true true d w zero e ih = absurd (grind (arith, nat_tests, e, w))
    by_test true true d w (suc room) e ih =
        let further = ih room (next_weight room weight e).1 in
        let is = as_digit b d in
        let more = one_more room further.0 further.1 (b - 48) weight rest _ is.0 e further.2 in
        (suc further.0, (b - 48) * 10 ^ further.0 + further.1, rw is.1 at more)
    by_test true false d w room e ih = (0, 0, no_more room (b ∷ rest))
    by_test false some d w room e ih = (0, 0, no_more room (b ∷ rest))

-- no digit stands at the front
abbrev pub EndsDigits : List ℕ → Type 0
EndsDigits rest = (weight : ℕ) → digits_from weight rest ≡ (0, rest)

-- n as its first digit and the others
record FirstDigit (k n : ℕ) : Type 0 where
  digit : ℕ
  others : ℕ
  small : digit < 10
  fits : others < 10 ^ k
  whole : n ≡ digit * 10 ^ k + others
  spelled : zero_padded (suc k) n ≡ (48 + digit) ∷ zero_padded k others

first_digit : (k n : ℕ) → n < 10 ^ suc k → FirstDigit k n
first_digit k n h =
    let some = one-le-pow k 10 (omega arith) in
    let more = power_more k in
    let digit : n / 10 ^ k < 10 = div_below n (10 ^ k) 10 some (omega arith) in
    let others = mod_below n (10 ^ k) some in
    let parts = sym (div-add-mod' n (10 ^ k)) in
    record {
      digit = n / 10 ^ k;
      others = n % 10 ^ k;
      small = digit;
      fits = others;
      whole = parts;
      spelled = ap (zero_padded (suc k)) parts ∙ zero_padded-head k (n / 10 ^ k) (n % 10 ^ k) digit others;
    }

digits_from-head : (d weight : ℕ) (text : List ℕ) → d < 10 → 0 < weight
    → digits_from weight ((48 + d) ∷ text) ≡ (d * weight + (digits_from (weight / 10) text).0, (digits_from (weight / 10) text).1)
unfolding digits_from
digits_from-head d weight text h some =
    let tests : is_ascii_digit (48 + d) && nat_lt 0 weight ≡ true = rw (digit_test d h) (grind (arith, nat_tests)) in
    let e : 48 + d - 48 ≡ d = omega arith in
    rw (tests, e)

digits_from-of : (places room n weight : ℕ) (rest : List ℕ) → IsWeight room weight → places ≤ room → n < 10 ^ places → EndsDigits rest
    → digits_from weight (zero_padded places n ++ rest) ≡ (n * 10 ^ (room - places), rest)
unfolding digits_from
digits_from-of zero room n weight rest e fits small ends =
    let none : 0 ≡ n * 10 ^ (room - 0) = let z : n ≡ 0 = omega arith in rw z (omega arith) in
    ends weight ∙ ap (λ m. (m, rest)) none
digits_from-of (suc k) zero n weight rest e fits small ends = absurd (omega arith)
digits_from-of (suc k) (suc room) n weight rest e fits small ends =
    let first = first_digit k n small in
    let w = next_weight room weight e in
    let some = one-le-pow room 10 (omega arith) in
    let left : suc room - suc k ≡ room - k = omega arith in
    let split : 10 ^ room ≡ 10 ^ k * 10 ^ (room - k) = ap (λ m. 10 ^ m) (omega arith) ∙ pow-add 10 k (room - k) in
    let high : first.digit * weight ≡ first.digit * (10 ^ k * 10 ^ (room - k)) = ap (λ m. first.digit * m) (w.0 ∙ split) in
    let further = digits_from-of k room first.others (weight / 10) rest w.1 (omega arith) first.fits ends in
    let total = ap (λ m. m * 10 ^ (room - k)) first.whole in
    let value : first.digit * weight + first.others * 10 ^ (room - k) ≡ n * 10 ^ (room - k) = omega arith in
    let read = digits_from-head first.digit weight (zero_padded k first.others ++ rest) first.small (omega arith) in
    rw (first.spelled, read, further, left) (ap (λ m. (m, rest)) value)

option_map-some : {A B : Type 0} (f : A → B) (o : Option A) (y : B) → option_map f o ≡ Some y → (x : A) × (o ≡ Some x) × (f x ≡ y)
option_map-some f None y e = absurd (none-some y e)
option_map-some f (Some x) y e = (x, refl, same_Some _ _ e)

-- the text begins with the fraction, and rest comes behind it
abbrev pub BeginsWithFraction : List ℕ → ℕ → List ℕ → Type 0
BeginsWithFraction text nanos rest = (spelling : List ℕ) × SpellsFraction spelling nanos × (text ≡ spelling ++ rest)

pub read_fraction-spelled : (text : List ℕ) (p : ℕ × List ℕ) → read_fraction text ≡ Some p → BeginsWithFraction text p.0 p.1
unfolding read_fraction
read_fraction-spelled [] p e =
    let same = same_Some _ _ e in
    ([], inl (refl, ap (λ q. q.0) (sym same)), ap (λ q. q.1) same)
read_fraction-spelled (b ∷ rest) p e = by_test (b == 46) refl e
  where
    by_test : (point : Bool) → (b == 46) ≡ point → cond point (option_map (λ _. digits_from 100_000_000 rest) (read_digit rest)) (Some (0, b ∷ rest)) ≡ Some p
        → BeginsWithFraction (b ∷ rest) p.0 p.1
    by_test true is e =
        let found = option_map-some _ (read_digit rest) p e in
        let first = read_digit-spelled rest found.0 found.1 in
        let further = digits_from-spelled found.0.1 8 10_000_000 refl in
        let more = one_more 8 further.0 further.1 found.0.0 100_000_000 found.0.1 _ first.0 refl further.2 in
        let read = sym (digits_from-head found.0.0 100_000_000 found.0.1 first.0 (omega arith)) ∙ ap (digits_from 100_000_000) (sym first.1) ∙ found.2 in
        let digits = rw (read, ← first.1) at more in
        let n = found.0.0 * 10 ^ further.0 + further.1 in
        let point : b ≡ 46 = grind (arith, nat_tests) in
        let f = digits.fits in (
          46 ∷ zero_padded (suc further.0) n,
          inr (suc further.0, n, (omega arith, f), digits.small, refl, digits.value),
          ap (λ c. c ∷ rest) point ∙ ap (λ l. 46 ∷ l) digits.spelled,
        )
    by_test false is e =
        let same = same_Some _ _ e in
        ([], inl (refl, ap (λ q. q.0) (sym same)), ap (λ q. q.1) same)

-- no fraction stands at the front
pub record EndsTime (rest : List ℕ) : Type 0 where
  pub no_digit : EndsDigits rest
  pub no_fraction : read_fraction rest ≡ Some (0, rest)

pub read_fraction-of : (spelling rest : List ℕ) (nanos : ℕ) → SpellsFraction spelling nanos → EndsTime rest → read_fraction (spelling ++ rest) ≡ Some (nanos, rest)
unfolding read_fraction
read_fraction-of spelling rest nanos (inl none) ends =
    ap (λ l. read_fraction (l ++ rest)) none.0 ∙ ends.no_fraction ∙ ap (λ n. Some (n, rest)) (sym none.1)
read_fraction-of spelling rest nanos (inr (zero, n, range, small, spelled, value)) ends = absurd (omega arith)
read_fraction-of spelling rest nanos (inr (suc k, n, range, small, spelled, value)) ends =
    let first = first_digit k n small in
    let a_digit = ap (λ l. read_digit (l ++ rest)) first.spelled ∙ read_digit-of first.digit (zero_padded k first.others ++ rest) first.small in
    let read = digits_from-of (suc k) 9 n 100_000_000 rest refl range.1 small ends.no_digit in
    rw (spelled, a_digit, read, value)
