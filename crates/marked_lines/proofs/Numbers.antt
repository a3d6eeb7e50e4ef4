-- A number token: json's grammar takes of it what it takes of it with other bytes behind.
use Rattle.std.proofs.Common.{◌≡◌, ◌≤◌, ℕ, zero, suc, ◌+◌, List, [], ◌∷◌, ◌++◌, length, drop, Bool, true, false, cond, ◌==◌, ◌||◌, Option, Some, None, option_map, option_and_then, refl, sym, ap, ap₂, ◌∙◌, arith}
use Rattle.std.proofs.lemmas.Bool.{false≢true, true≢false, eqb-true}
use Rattle.std.specs.List.{prefix_len}
use Rattle.std.specs.Char.{is_ascii_digit}
use Rattle.json.specs.Word.{head, after_digits, after_minus, after_sign, after_whole, after_fraction, after_exponent, after_number}
use Rattle.marked_lines.specs.Cut.{is_number_byte}

-- no number goes on with r
abbrev pub Stops : List ℕ → Type 0
Stops r = is_number_byte (head r) ≡ false

abbrev with_tail : List ℕ → Option (List ℕ) → Option (List ℕ)
with_tail r o = option_map (λ v. v ++ r) o

not_digit : (x : ℕ) → is_number_byte x ≡ false → is_ascii_digit x ≡ false
not_digit x h = step (is_ascii_digit x) (x == 45) (x == 43) (x == 46) (x == 101) (x == 69) h
  where
    step : (a b c d e f : Bool) → (a || b || c || d || e || f) ≡ false → a ≡ false
    step true b c d e f g = absurd (true≢false g)
    step false b c d e f g = refl

prefix_stop : (r : List ℕ) → Stops r → prefix_len is_ascii_digit r ≡ 0
prefix_stop [] h = refl
prefix_stop (x ∷ r) h = ap (λ b. cond b (1 + prefix_len is_ascii_digit r) 0) (not_digit x h)

prefix-tail : (u r : List ℕ) → Stops r → prefix_len is_ascii_digit (u ++ r) ≡ prefix_len is_ascii_digit u
prefix-tail [] r h = prefix_stop r h
prefix-tail (x ∷ u) r h = ap (λ n. cond (is_ascii_digit x) (1 + n) 0) (prefix-tail u r h)

prefix-le : (u : List ℕ) → prefix_len is_ascii_digit u ≤ length u
prefix-le [] = omega arith
prefix-le (x ∷ u) = step (is_ascii_digit x) (prefix-le u)
  where
    step : (b : Bool) → prefix_len is_ascii_digit u ≤ length u → cond b (1 + prefix_len is_ascii_digit u) 0 ≤ length (x ∷ u)
    step true h = omega arith
    step false h = omega arith

drop-tail : (n : ℕ) (u r : List ℕ) → n ≤ length u → drop n (u ++ r) ≡ drop n u ++ r
drop-tail zero u r h = refl
drop-tail (suc n) [] r h = absurd (omega arith)
drop-tail (suc n) (x ∷ u) r h = drop-tail n u r (omega arith)

digits-tail : (u r : List ℕ) → Stops r → after_digits (u ++ r) ≡ with_tail r (after_digits u)
digits-tail u r h = ap (λ n. cond (n == 0) None (Some (drop n (u ++ r)))) (prefix-tail u r h) ∙ step (prefix_len is_ascii_digit u == 0)
  where
    step : (b : Bool) → cond b None (Some (drop (prefix_len is_ascii_digit u) (u ++ r))) ≡ with_tail r (cond b None (Some (drop (prefix_len is_ascii_digit u) u)))
    step true = refl
    step false = ap Some (drop-tail (prefix_len is_ascii_digit u) u r (prefix-le u))

not_at : (r : List ℕ) (x c : ℕ) → is_number_byte x ≡ false → is_number_byte c ≡ true → (x == c) ≡ false
not_at r x c h k = step (x == c) (λ e. eqb-true x c e)
  where
    step : (b : Bool) → (b ≡ true → x ≡ c) → b ≡ false
    step true f = absurd (false≢true (sym h ∙ ap is_number_byte (f refl) ∙ k))
    step false f = refl

-- the first byte's test, of a number's byte
first-tail : (u r : List ℕ) (c : ℕ) → Stops r → is_number_byte c ≡ true → (head (u ++ r) == c) ≡ (head u == c)
first-tail [] r c h k = not_at r (head r) c h k ∙ sym (not_at r 32 c refl k)
first-tail (x ∷ u) r c h k = refl

-- a first byte is passed over on both sides
skip-tail : (u r : List ℕ) (t : Bool) → (t ≡ true → u ≡ [] → ⊥) → t ≡ true → drop 1 (u ++ r) ≡ drop 1 u ++ r
skip-tail [] r t f e = absurd (f e refl)
skip-tail (x ∷ u) r t f e = refl

not_empty : (u : List ℕ) (c : ℕ) → is_number_byte c ≡ true → (head u == c) ≡ true → u ≡ [] → ⊥
not_empty [] c k e h = false≢true (sym (not_at [] 32 c refl k) ∙ e)
not_empty (x ∷ u) c k e h = cc

minus-tail : (u r : List ℕ) → Stops r → after_minus (u ++ r) ≡ after_minus u ++ r
minus-tail u r h = ap (λ b. cond b (drop 1 (u ++ r)) (u ++ r)) (first-tail u r 45 h refl) ∙ step (head u == 45) refl
  where
    step : (b : Bool) → (head u == 45) ≡ b → cond b (drop 1 (u ++ r)) (u ++ r) ≡ cond b (drop 1 u) u ++ r
    step true e = skip-tail u r (head u == 45) (not_empty u 45 refl) e
    step false e = refl

either_sign : (a b : Bool) → (a || b) ≡ true → (a ≡ true → ⊥) → b ≡ true
either_sign true b h f = absurd (f refl)
either_sign false b h f = h

sign-tail : (u r : List ℕ) → Stops r → after_sign (u ++ r) ≡ after_sign u ++ r
sign-tail [] r h = ap₂ (λ a b. cond (a || b) (drop 1 r) r) (not_at r (head r) 45 h refl) (not_at r (head r) 43 h refl)
sign-tail (x ∷ u) r h = step ((x == 45) || (x == 43))
  where
    step : (b : Bool) → cond b (u ++ r) (x ∷ (u ++ r)) ≡ cond b u (x ∷ u) ++ r
    step true = refl
    step false = refl

whole-tail : (u r : List ℕ) → Stops r → after_whole (u ++ r) ≡ with_tail r (after_whole u)
whole-tail u r h = ap₂ (λ b o. cond b (Some (drop 1 (u ++ r))) o) (first-tail u r 48 h refl) (digits-tail u r h) ∙ step (head u == 48) refl
  where
    step : (b : Bool) → (head u == 48) ≡ b → cond b (Some (drop 1 (u ++ r))) (with_tail r (after_digits u)) ≡ with_tail r (cond b (Some (drop 1 u)) (after_digits u))
    step true e = ap Some (skip-tail u r (head u == 48) (not_empty u 48 refl) e)
    step false e = refl

fraction-tail : (u r : List ℕ) → Stops r → after_fraction (u ++ r) ≡ with_tail r (after_fraction u)
fraction-tail [] r h = ap (λ b. cond b (after_digits (drop 1 r)) (Some r)) (not_at r (head r) 46 h refl)
fraction-tail (x ∷ u) r h = ap (λ o. cond (x == 46) o (Some (x ∷ (u ++ r)))) (digits-tail u r h) ∙ step (x == 46)
  where
    step : (b : Bool) → cond b (with_tail r (after_digits u)) (Some (x ∷ (u ++ r))) ≡ with_tail r (cond b (after_digits u) (Some (x ∷ u)))
    step true = refl
    step false = refl

exponent-tail : (u r : List ℕ) → Stops r → after_exponent (u ++ r) ≡ with_tail r (after_exponent u)
exponent-tail [] r h = ap₂ (λ a b. cond (a || b) (after_digits (after_sign (drop 1 r))) (Some r)) (not_at r (head r) 101 h refl) (not_at r (head r) 69 h refl)
exponent-tail (x ∷ u) r h = ap (λ o. cond ((x == 101) || (x == 69)) o (Some (x ∷ (u ++ r)))) (ap after_digits (sign-tail u r h) ∙ digits-tail (after_sign u) r h) ∙ step ((x == 101) || (x == 69))
  where
    step : (b : Bool) → cond b (with_tail r (after_digits (after_sign u))) (Some (x ∷ (u ++ r))) ≡ with_tail r (cond b (after_digits (after_sign u)) (Some (x ∷ u)))
    step true = refl
    step false = refl

chain : (r : List ℕ) (f : List ℕ → Option (List ℕ)) → ((u : List ℕ) → f (u ++ r) ≡ with_tail r (f u)) → (o : Option (List ℕ)) → option_and_then f (with_tail r o) ≡ with_tail r (option_and_then f o)
chain r f e None = refl
chain r f e (Some v) = e v

pub number-tail : (u r : List ℕ) → Stops r → after_number (u ++ r) ≡ with_tail r (after_number u)
unfolding after_number
number-tail u r h =
    ap (λ v. option_and_then after_exponent (option_and_then after_fraction (after_whole v))) (minus-tail u r h)
    ∙ ap (λ o. option_and_then after_exponent (option_and_then after_fraction o)) (whole-tail (after_minus u) r h)
    ∙ ap (option_and_then after_exponent) (chain r after_fraction (λ v. fraction-tail v r h) (after_whole (after_minus u)))
    ∙ chain r after_exponent (λ v. exponent-tail v r h) (option_and_then after_fraction (after_whole (after_minus u)))
