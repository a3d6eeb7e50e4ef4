-- A text has one sign, whole part and fraction.
use Rattle.std.proofs.Common.{◌≡◌, ℕ, suc, ◌+◌, ◌<◌, List, [], ◌∷◌, ◌++◌, Bool, true, false, cond, length, take, drop, get_or, arith, ap, ◌∙◌, refl}
use Rattle.std.proofs.lemmas.Bool.Decides.{nat_tests}
use Rattle.std.proofs.Math.Seq.{take-append_seam, drop-append_seam}
use Rattle.std.specs.Char.{is_ascii_digit, digit_value}
use Rattle.std.specs.Fmt.{sign_text}
use Rattle.std.specs.List.{prefix_len}
use Rattle.std.specs.Str.Parse.{AllDigits}
use Rattle.exact_money.specs.Numeral.{Numeral, IsWhole, IsPlain, behind_point, spelling}
use Rattle.exact_money.proofs.Rounding.{digit_range}

digit_test : (c : ℕ) → digit_value c < 10 → is_ascii_digit c ≡ true
digit_test c h = let r = digit_range c h in grind (arith, nat_tests)

small_digit : (c : ℕ) → is_ascii_digit c ≡ true → digit_value c < 10
small_digit c h = grind (arith, nat_tests)

pub digits_run : (xs rest : List ℕ) → AllDigits 10 xs → prefix_len is_ascii_digit rest ≡ 0 → prefix_len is_ascii_digit (xs ++ rest) ≡ length xs
digits_run [] rest h e = e
digits_run (x ∷ xs) rest h e =
    ap (λ b. cond b (1 + prefix_len is_ascii_digit (xs ++ rest)) 0) (digit_test x h.0) ∙ omega (arith, digits_run xs rest h.1 e)

pub run_digits : (xs : List ℕ) (n : ℕ) → n ≡ prefix_len is_ascii_digit xs → AllDigits 10 (take n xs)
run_digits [] n e = rw e tt
run_digits (x ∷ xs) n e = by_test (is_ascii_digit x) (small_digit x) e (λ k g. run_digits xs k g)
  where
    by_test : (b : Bool) → (b ≡ true → digit_value x < 10) → n ≡ cond b (1 + prefix_len is_ascii_digit xs) 0 → ((k : ℕ) → k ≡ prefix_len is_ascii_digit xs → AllDigits 10 (take k xs)) → AllDigits 10 (take n (x ∷ xs))
    by_test true small e ih = let s : n ≡ suc (prefix_len is_ascii_digit xs) = omega arith in rw s (small refl, ih (prefix_len is_ascii_digit xs) refl)
    by_test false small e ih = rw e tt

pub behind_no_digit : (fraction : List ℕ) → prefix_len is_ascii_digit (behind_point fraction) ≡ 0
behind_no_digit [] = refl
behind_no_digit (x ∷ fraction) = refl

pub record SameParts (text whole fraction : List ℕ) (n : ℕ) : Type 0 where
  pub front : take n text ≡ whole
  pub back : drop n text ≡ behind_point fraction

pub same_parts : (text whole fraction : List ℕ) (n : ℕ) → AllDigits 10 whole → text ≡ whole ++ behind_point fraction → n ≡ prefix_len is_ascii_digit text → SameParts text whole fraction n
same_parts text whole fraction n h e p =
    let len : n ≡ length whole = p ∙ ap (prefix_len is_ascii_digit) e ∙ digits_run whole (behind_point fraction) h (behind_no_digit fraction) in
    record {
      front = rw (len, e) (take-append_seam whole (behind_point fraction));
      back = rw (len, e) (drop-append_seam whole (behind_point fraction));
    }

pub behind_is : (fraction : List ℕ) (first : ℕ) (rest : List ℕ) → behind_point fraction ≡ first ∷ rest → (first ≡ 46) × (rest ≡ fraction) × (0 < length fraction)
behind_is [] first rest e = cc
behind_is (x ∷ fraction) first rest e = (cc, cc, omega arith)

minus_no_digit : (c : ℕ) → c ≡ 45 → digit_value c < 10 → ⊥
minus_no_digit c e h = let r = digit_range c h in omega arith

-- a text that begins with a minus is a negative numeral, and no other is
pub after_minus : (n : Numeral) (rest : List ℕ) (first : ℕ) → IsPlain n → first ∷ rest ≡ spelling n → first ≡ 45 → (true ≡ n.negative) × (rest ≡ n.whole ++ behind_point n.fraction)
after_minus n rest first h e m = by_sign n.negative n.whole h.0 e
  where
    by_sign : (b : Bool) (whole : List ℕ) → IsWhole whole → first ∷ rest ≡ sign_text b ++ (whole ++ behind_point n.fraction) → (true ≡ b) × (rest ≡ whole ++ behind_point n.fraction)
    by_sign true whole w e = (refl, cc)
    by_sign false [] w e = absurd (omega (arith, w.some))
    by_sign false (x ∷ whole) w e = absurd (minus_no_digit x (cc) w.digits.0)

pub no_minus : (n : Numeral) (text : List ℕ) → (get_or text 0 0 ≡ 45 → ⊥) → text ≡ spelling n → (false ≡ n.negative) × (text ≡ n.whole ++ behind_point n.fraction)
no_minus n text h e = by_sign n.negative e
  where
    by_sign : (b : Bool) → text ≡ sign_text b ++ (n.whole ++ behind_point n.fraction) → (false ≡ b) × (text ≡ n.whole ++ behind_point n.fraction)
    by_sign true e = absurd (h (ap (λ l. get_or l 0 0) e))
    by_sign false e = (refl, e)
