-- The function `millionths_of` against the numeral that a text spells.
use Rattle.std.proofs.Common.{◌≡◌, ◌≢◌, ℕ, ◌+◌, ◌<◌, ◌≤◌, ◌⊎◌, List, [], ◌∷◌, ◌++◌, Bool, true, false, ◌&&◌, ◌||◌, nat_le, nat_eq, not, length, take, drop, get_or, arith, sym, ap, ◌∙◌, refl, if◌then◌else◌, ℤ, Option, Some, None, option_map, lit<}
use Rattle.std.proofs.lemmas.Bool.Decides.{nat_tests}
use Rattle.std.proofs.lemmas.List.{append-nil}
use Rattle.std.proofs.lemmas.Slice.Eq.{bytes_eq-Decides}
use Rattle.std.proofs.Math.Nat.{one-le-pow}
use Rattle.std.proofs.Math.Seq.{take-append_seam, drop-append-add}
use Rattle.std.specs.Char.{is_ascii_digit, digit_value}
use Rattle.std.specs.Fmt.{sign_text}
use Rattle.std.specs.List.{prefix_len}
use Rattle.std.specs.Str.{bytes_eq}
use Rattle.std.specs.Str.Parse.{AllDigits, starts_with_minus}
use Rattle.exact_money.specs.Numeral.{Numeral, IsWhole, IsPlain, behind_point, spelling, signed, digits_of, unit_of}
use Rattle.exact_money.specs.Millionths.{IsMillionthsOf, millionths_of}
use Rattle.exact_money.specs.Inner.NumeralOf.{leading_digits, parts, is_in_form, rounded_size, value_of}
use Rattle.exact_money.proofs.Nearest.{rounded_nearest, nearest_is}
use Rattle.exact_money.proofs.Parts.{digits_run, run_digits, behind_no_digit}
use Rattle.exact_money.proofs.Rounding.{digit_range}

-- ---- the parts of a spelling

digit_no_minus : (c : ℕ) → digit_value c < 10 → nat_eq c 45 ≡ false
digit_no_minus c h = let r = digit_range c h in grind (arith, nat_tests)

starts : (n : Numeral) → IsPlain n → starts_with_minus (spelling n) ≡ n.negative
starts n h = by_sign n.negative n.whole h.0
  where
    by_sign : (b : Bool) (whole : List ℕ) → IsWhole whole → starts_with_minus (sign_text b ++ (whole ++ behind_point n.fraction)) ≡ b
    by_sign true whole w = refl
    by_sign false [] w = absurd (omega (arith, w.some))
    by_sign false (x ∷ whole) w = digit_no_minus x w.digits.0

without_sign : (b : Bool) (rest : List ℕ) → drop (if b then 1 else 0) (sign_text b ++ rest) ≡ rest
without_sign true rest = refl
without_sign false rest = refl

unsigned : List ℕ → List ℕ
unsigned text = drop (if starts_with_minus text then 1 else 0) text

unsigned_is : (n : Numeral) → IsPlain n → unsigned (spelling n) ≡ n.whole ++ behind_point n.fraction
unfolding unsigned
unsigned_is n h = ap (λ b. drop (if b then 1 else 0) (spelling n)) (starts n h) ∙ without_sign n.negative (n.whole ++ behind_point n.fraction)

leading_front : (xs rest : List ℕ) → AllDigits 10 xs → prefix_len is_ascii_digit rest ≡ 0 → leading_digits (xs ++ rest) ≡ xs
leading_front xs rest h e = ap (λ k. take k (xs ++ rest)) (digits_run xs rest h e) ∙ take-append_seam xs rest

leading_all : (xs : List ℕ) → AllDigits 10 xs → leading_digits xs ≡ xs
leading_all xs h = ap leading_digits (sym (append-nil xs)) ∙ leading_front xs [] h refl

point_dropped : (fraction : List ℕ) → drop 1 (behind_point fraction) ≡ fraction
point_dropped [] = refl
point_dropped (x ∷ fraction) = refl

fraction_is : (whole fraction : List ℕ) → drop (length whole + 1) (whole ++ behind_point fraction) ≡ fraction
fraction_is whole fraction = drop-append-add whole (behind_point fraction) 1 ∙ point_dropped fraction

parts_spelling : (n : Numeral) → IsPlain n → parts (spelling n) ≡ n
unfolding unsigned
parts_spelling n h =
    let sign = starts n h in
    let rest = unsigned_is n h in
    let whole : leading_digits (unsigned (spelling n)) ≡ n.whole =
    ap leading_digits rest ∙ leading_front n.whole (behind_point n.fraction) h.0.digits (behind_no_digit n.fraction) in
    let fraction : leading_digits (drop (length (leading_digits (unsigned (spelling n))) + 1) (unsigned (spelling n))) ≡ n.fraction =
    (λ i. leading_digits (drop (length (whole i) + 1) (rest i))) ∙ ap leading_digits (fraction_is n.whole n.fraction) ∙ leading_all n.fraction h.1.digits in
    λ i. record { negative = sign i; whole = whole i; fraction = fraction i }

-- ---- its form

both : (a b : Bool) → (a && b) ≡ true → (a ≡ true) × (b ≡ true)
both true true e = (refl, refl)
both true false e = cc
both false true e = cc
both false false e = cc

both_true : (a b : Bool) → a ≡ true → b ≡ true → (a && b) ≡ true
both_true a b p q = rw (p, q)

form_tells : (whole fraction first : ℕ) → (nat_le 1 whole && nat_le whole 9 && (nat_eq whole 1 || not (nat_eq first 48)) && nat_le fraction 30) ≡ true
    → (1 ≤ whole) × (whole ≤ 9) × ((whole ≡ 1) ⊎ (first ≢ 48)) × (fraction ≤ 30)
form_tells whole fraction first h = grind (arith, nat_tests)

form_holds : (whole fraction first : ℕ) → 1 ≤ whole → whole ≤ 9 → (whole ≡ 1) ⊎ (first ≢ 48) → fraction ≤ 30
    → (nat_le 1 whole && nat_le whole 9 && (nat_eq whole 1 || not (nat_eq first 48)) && nat_le fraction 30) ≡ true
form_holds whole fraction first a b c d = grind (arith, nat_tests)

in_form : (n : Numeral) → IsPlain n → is_in_form n ≡ true
in_form n h = form_holds (length n.whole) (length n.fraction) (get_or n.whole 0 0) h.0.some h.0.few h.0.no_leading_zero h.1.few

plain_parts : (text : List ℕ) → is_in_form (parts text) ≡ true → IsPlain (parts text)
unfolding unsigned
plain_parts text e =
    let form = form_tells (length (parts text).whole) (length (parts text).fraction) (get_or (parts text).whole 0 0) e in
    let digits : (l : List ℕ) → AllDigits 10 (leading_digits l) = λ l. run_digits l (prefix_len is_ascii_digit l) refl in
    let rest = unsigned text in (
      record { digits = digits rest; some = form.0; few = form.1; no_leading_zero = form.2 },
      record { digits = digits (drop (length (leading_digits rest) + 1) rest); few = form.3 },
    )

-- ---- the law

unit_positive : (n : Numeral) → 0 < unit_of n
unit_positive n = one-le-pow (length n.fraction) 10 (lit< tt)

pub found : (text : List ℕ) (m : ℤ) → millionths_of text ≡ Some m → IsMillionthsOf text m
unfolding millionths_of
found text m e = by_test (is_in_form (parts text) && bytes_eq text (spelling (parts text))) refl e
  where
    by_test : (b : Bool) → (is_in_form (parts text) && bytes_eq text (spelling (parts text))) ≡ b → option_map value_of (if b then Some (parts text) else None) ≡ Some m → IsMillionthsOf text m
    by_test true t e =
        let tests = both _ _ t in (
          parts text,
          plain_parts text tests.0,
          (bytes_eq-Decides text (spelling (parts text))).0 tests.1,
          (rounded_size (digits_of (parts text)) (unit_of (parts text)), rounded_nearest (digits_of (parts text)) (unit_of (parts text)) (unit_positive (parts text)), cc),
        )
    by_test false t e = cc

pub some_of : (text : List ℕ) (m : ℤ) → IsMillionthsOf text m → millionths_of text ≡ Some m
unfolding millionths_of
some_of text m h =
    let n : Numeral = h.0 in
    let same : parts text ≡ n = ap parts h.2 ∙ parts_spelling n h.1 in
    let test : (is_in_form (parts text) && bytes_eq text (spelling (parts text))) ≡ true =
    both_true _ _ (ap is_in_form same ∙ in_form n h.1) ((bytes_eq-Decides text (spelling (parts text))).1 (h.2 ∙ ap spelling (sym same))) in
    let value : value_of n ≡ m = ap (signed n.negative) (sym (nearest_is (digits_of n) (unit_of n) h.3.0 (unit_positive n) h.3.1)) ∙ sym h.3.2 in
    ap (λ b. option_map value_of (if b then Some (parts text) else None)) test ∙ ap (λ p. Some (value_of p)) same ∙ ap (λ z. Some z) value

pub none_of : (text : List ℕ) → ((n : Numeral) → IsPlain n → text ≡ spelling n → ⊥) → None ≡ millionths_of text
none_of text refused = by_value (millionths_of text) refl
  where
    by_value : (o : Option ℤ) → millionths_of text ≡ o → None ≡ o
    by_value None e = refl
    by_value (Some m) e = let h = found text m e in absurd (refused h.0 h.1 h.2)
