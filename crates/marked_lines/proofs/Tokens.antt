-- One number token, on both sides.
use Rattle.std.proofs.Common.{◌≡◌, ◌⊎◌, inl, inr, ℕ, zero, suc, ◌+◌, ◌-◌, List, [], ◌∷◌, ◌++◌, length, take, drop, Bool, true, false, cond, ◌==◌, ◌||◌, nat_lt, nat_le, Option, Some, None, option_map, option_and_then, refl, sym, ap, ◌∙◌, arith, length-append}
use Rattle.std.proofs.lemmas.Bool.{false≢true, eqb-true, ltb-true, leb-true, and_parts}
use Rattle.std.proofs.Math.Seq.{take-append_seam}
use Rattle.std.specs.List.{prefix_len}
use Rattle.std.specs.Char.{is_ascii_digit}
use Rattle.json.specs.Token.{number, boolean, null, bad}
use Rattle.json.specs.Text.{plain, after_backslash, content, prepend}
use Rattle.json.specs.Lex.{quote, backslash, operator, space, other, class, between, in_word, lex_byte, lex}
use Rattle.json.specs.Word.{head, ends_word, is_operator, is_space, after_digits, after_minus, after_sign, after_whole, after_fraction, after_exponent, after_number, number_before, word, literal}
use Rattle.json.specs.Ascii as ascii
use Rattle.marked_lines.specs.Cut.{is_number_byte, inside}
use Rattle.marked_lines.proofs.Numbers.{Stops, number-tail}

abbrev pub AllNum : List ℕ → Type 0
AllNum [] = Unit {0}
AllNum (x ∷ xs) = (is_number_byte x ≡ true) × AllNum xs

-- a number's byte is no other byte
pub apart : (x c : ℕ) → is_number_byte x ≡ true → is_number_byte c ≡ false → (x == c) ≡ false
apart x c h k = step (x == c) (λ e. eqb-true x c e)
  where
    step : (b : Bool) → (b ≡ true → x ≡ c) → b ≡ false
    step true f = absurd (false≢true (sym k ∙ ap is_number_byte (sym (f refl)) ∙ h))
    step false f = refl

pub greedy : (t r : List ℕ) → prefix_len is_number_byte (t ++ r) ≡ length t → AllNum t × Stops r
greedy [] [] h = (tt, refl)
greedy [] (x ∷ r) h = (tt, step (is_number_byte x) h)
  where
    step : (b : Bool) → cond b (1 + prefix_len is_number_byte r) 0 ≡ 0 → b ≡ false
    step true e = absurd (omega arith)
    step false e = refl
greedy (x ∷ t) r h = step (is_number_byte x) h (λ e. greedy t r e)
  where
    step : (b : Bool) → cond b (1 + prefix_len is_number_byte (t ++ r)) 0 ≡ suc (length t) → (prefix_len is_number_byte (t ++ r) ≡ length t → AllNum t × Stops r) → ((b ≡ true) × AllNum t) × Stops r
    step true e f = let g = f (omega arith) in ((refl, g.0), g.1)
    step false e f = absurd (omega arith)

no_operator : (x : ℕ) → is_number_byte x ≡ true → is_operator x ≡ false
no_operator x h = λ i. apart x 123 h refl i || apart x 125 h refl i || apart x 91 h refl i || apart x 93 h refl i || apart x 58 h refl i || apart x 44 h refl i

no_space : (x : ℕ) → is_number_byte x ≡ true → is_space x ≡ false
no_space x h = λ i. apart x 32 h refl i || apart x 9 h refl i || apart x 10 h refl i || apart x 13 h refl i

pub number_class : (x : ℕ) → is_number_byte x ≡ true → class x ≡ other
number_class x h = λ i. cond (apart x 34 h refl i) quote (cond (apart x 92 h refl i) backslash (cond (no_operator x h i) operator (cond (no_space x h i) space other)))

pub no_end : (y : ℕ) (r : List ℕ) → is_number_byte y ≡ true → ends_word (y ∷ r) ≡ false
no_end y r h = λ i. no_operator y h i || no_space y h i

-- ---- what is left of a token's bytes are a token's bytes

abbrev OnNum : Option (List ℕ) → Type 0
OnNum None = Unit {0}
OnNum (Some v) = AllNum v

nums-drop : (n : ℕ) (l : List ℕ) → AllNum l → AllNum (drop n l)
nums-drop zero l h = h
nums-drop (suc n) [] h = tt
nums-drop (suc n) (x ∷ l) h = nums-drop n l h.1

one_of : (b : Bool) (k l : List ℕ) → AllNum k → AllNum l → AllNum (cond b k l)
one_of true k l h g = h
one_of false k l h g = g

on_of : (b : Bool) (k l : Option (List ℕ)) → OnNum k → OnNum l → OnNum (cond b k l)
on_of true k l h g = h
on_of false k l h g = g

on_chain : (f : List ℕ → Option (List ℕ)) → ((l : List ℕ) → AllNum l → OnNum (f l)) → (o : Option (List ℕ)) → OnNum o → OnNum (option_and_then f o)
on_chain f g None h = tt
on_chain f g (Some v) h = g v h

nums-digits : (l : List ℕ) → AllNum l → OnNum (after_digits l)
nums-digits l h = on_of (prefix_len is_ascii_digit l == 0) None (Some (drop (prefix_len is_ascii_digit l) l)) tt (nums-drop _ l h)

nums-whole : (l : List ℕ) → AllNum l → OnNum (after_whole l)
nums-whole l h = on_of (head l == 48) (Some (drop 1 l)) (after_digits l) (nums-drop 1 l h) (nums-digits l h)

nums-fraction : (l : List ℕ) → AllNum l → OnNum (after_fraction l)
nums-fraction l h = on_of (head l == 46) (after_digits (drop 1 l)) (Some l) (nums-digits (drop 1 l) (nums-drop 1 l h)) h

nums-exponent : (l : List ℕ) → AllNum l → OnNum (after_exponent l)
nums-exponent l h =
    on_of ((head l == 101) || (head l == 69)) (after_digits (after_sign (drop 1 l))) (Some l)
    (nums-digits (after_sign (drop 1 l)) (one_of ((head (drop 1 l) == 45) || (head (drop 1 l) == 43)) (drop 1 (drop 1 l)) (drop 1 l) (nums-drop 1 (drop 1 l) (nums-drop 1 l h)) (nums-drop 1 l h))) h

nums-number : (l : List ℕ) → AllNum l → OnNum (after_number l)
unfolding after_number
nums-number l h =
    on_chain after_exponent nums-exponent _ (on_chain after_fraction nums-fraction _ (nums-whole (after_minus l) (one_of (head l == 45) (drop 1 l) l (nums-drop 1 l h) h)))

-- ---- the word

pub is_word : (x : ℕ) (u : List ℕ) → is_number_byte x ≡ true → word (x ∷ u) ≡ number_before (x ∷ u) (after_number (x ∷ u))
unfolding word
is_word x u h = λ i. cond (apart x 116 h refl i) (literal ascii.true_text (boolean true) (x ∷ u)) (cond (apart x 102 h refl i) (literal ascii.false_text (boolean false) (x ∷ u)) (cond (apart x 110 h refl i) (literal ascii.null_text null (x ∷ u)) (number_before (x ∷ u) (after_number (x ∷ u)))))

whole_token : (t r : List ℕ) → take (length (t ++ r) - length r) (t ++ r) ≡ t
whole_token t r = let e : length (t ++ r) - length r ≡ length t = omega (arith, length-append t r) in ap (λ n. take n (t ++ r)) e ∙ take-append_seam t r

-- a number token with an end behind it is that number
pub number_read : (t r : List ℕ) → Stops r → after_number t ≡ Some [] → ends_word r ≡ true → number_before (t ++ r) (after_number (t ++ r)) ≡ number t
number_read t r stops k e =
    ap (number_before (t ++ r)) (number-tail t r stops ∙ ap (option_map (λ v. v ++ r)) k)
    ∙ ap (λ b. cond b (number (take (length (t ++ r) - length r) (t ++ r))) bad) e
    ∙ ap number (whole_token t r)

-- the word at a number token is that number, if it is one and its end ends it, and else bad
pub at_number : (t r : List ℕ) → AllNum t → Stops r
    → ((after_number t ≡ Some []) × (ends_word r ≡ true) × (number_before (t ++ r) (after_number (t ++ r)) ≡ number t)) ⊎ (number_before (t ++ r) (after_number (t ++ r)) ≡ bad)
at_number t r nums stops = step (after_number t) refl (nums-number t nums)
  where
    by_end : (b : Bool) → ends_word r ≡ b → after_number t ≡ Some []
        → ((after_number t ≡ Some []) × (ends_word r ≡ true) × (number_before (t ++ r) (after_number (t ++ r)) ≡ number t)) ⊎ (number_before (t ++ r) (after_number (t ++ r)) ≡ bad)
    by_end true e k = inl (k, e, number_read t r stops k e)
    by_end false e k = inr (ap (number_before (t ++ r)) (number-tail t r stops ∙ ap (option_map (λ v. v ++ r)) k) ∙ ap (λ b. cond b (number (take (length (t ++ r) - length r) (t ++ r))) bad) e)

    step : (o : Option (List ℕ)) → after_number t ≡ o → OnNum o
        → ((after_number t ≡ Some []) × (ends_word r ≡ true) × (number_before (t ++ r) (after_number (t ++ r)) ≡ number t)) ⊎ (number_before (t ++ r) (after_number (t ++ r)) ≡ bad)
    step None k h = inr (ap (number_before (t ++ r)) (number-tail t r stops ∙ ap (option_map (λ v. v ++ r)) k))
    step (Some []) k h = by_end (ends_word r) refl k
    step (Some (y ∷ v)) k h = inr (ap (number_before (t ++ r)) (number-tail t r stops ∙ ap (option_map (λ w. w ++ r)) k) ∙ ap (λ b. cond b (number (take (length (t ++ r) - length (y ∷ (v ++ r))) (t ++ r))) bad) (no_end y (v ++ r) h.0))

-- ---- the lexer passes over the rest of a word

pub ends_between : (r : List ℕ) → ends_word r ≡ true → lex in_word r ≡ lex between r
unfolding lex
ends_between [] h = refl
ends_between (y ∷ r) h = step (y == 34) (y == 92) (is_operator y) (is_space y) h (λ e. false≢true (sym (ap (λ z. is_operator z || is_space z) (eqb-true y 34 e)) ∙ h)) (λ e. false≢true (sym (ap (λ z. is_operator z || is_space z) (eqb-true y 92 e)) ∙ h))
  where
    step : (q s o p : Bool) → (o || p) ≡ true → (q ≡ true → ⊥) → (s ≡ true → ⊥) → lex_byte in_word (cond q quote (cond s backslash (cond o operator (cond p space other)))) y r (λ n. lex n r) ≡ lex_byte between (cond q quote (cond s backslash (cond o operator (cond p space other)))) y r (λ n. lex n r)
    step true s o p g a b = absurd (a refl)
    step false true o p g a b = absurd (b refl)
    step false false true p g a b = refl
    step false false false true g a b = refl
    step false false false false g a b = absurd (false≢true g)

pub passes_word : (u r : List ℕ) → AllNum u → lex in_word (u ++ r) ≡ lex in_word r
unfolding lex
passes_word [] r h = refl
passes_word (x ∷ u) r h = ap (λ c. lex_byte in_word c x (u ++ r) (λ n. lex n (u ++ r))) (number_class x h.0) ∙ passes_word u r h.1

-- ---- a number's text inside a string

pub inside_num : (t : List ℕ) → AllNum t → inside false t ≡ Some false
inside_num [] h = refl
inside_num (x ∷ t) h = (λ i. cond (apart x 34 h.0 refl i) None (inside (apart x 92 h.0 refl i) t)) ∙ inside_num t h.1

not_low : (x : ℕ) → is_number_byte x ≡ true → nat_lt x 32 ≡ false
not_low x h = step (is_ascii_digit x) (nat_lt x 32) refl refl
  where
    others : (x ≡ 45) ⊎ ((x ≡ 43) ⊎ ((x ≡ 46) ⊎ ((x ≡ 101) ⊎ (x ≡ 69)))) → nat_lt x 32 ≡ false
    others (inl e) = ap (λ y. nat_lt y 32) e
    others (inr (inl e)) = ap (λ y. nat_lt y 32) e
    others (inr (inr (inl e))) = ap (λ y. nat_lt y 32) e
    others (inr (inr (inr (inl e)))) = ap (λ y. nat_lt y 32) e
    others (inr (inr (inr (inr e)))) = ap (λ y. nat_lt y 32) e

    which : (a b c d e : Bool) → (x == 45) ≡ a → (x == 43) ≡ b → (x == 46) ≡ c → (x == 101) ≡ d → (x == 69) ≡ e → (false || a || b || c || d || e) ≡ true → (x ≡ 45) ⊎ ((x ≡ 43) ⊎ ((x ≡ 46) ⊎ ((x ≡ 101) ⊎ (x ≡ 69))))
    which true b c d e i j k l m g = inl (eqb-true x 45 i)
    which false true c d e i j k l m g = inr (inl (eqb-true x 43 j))
    which false false true d e i j k l m g = inr (inr (inl (eqb-true x 46 k)))
    which false false false true e i j k l m g = inr (inr (inr (inl (eqb-true x 101 l))))
    which false false false false true i j k l m g = inr (inr (inr (inr (eqb-true x 69 m))))
    which false false false false false i j k l m g = absurd (false≢true g)

    step : (d l : Bool) → is_ascii_digit x ≡ d → nat_lt x 32 ≡ l → l ≡ false
    step d false e g = refl
    step true true e g = absurd (omega (arith, ltb-true x 32 g, leb-true 48 x (and_parts (nat_le 48 x) (nat_le x 57) e).0))
    step false true e g = sym g ∙ others (which _ _ _ _ _ refl refl refl refl refl (ap (λ b. b || (x == 45) || (x == 43) || (x == 46) || (x == 101) || (x == 69)) (sym e) ∙ h))

pub content_num : (t r : List ℕ) → AllNum t → content plain (t ++ 34 ∷ r) ≡ Some t
unfolding content
content_num [] r h = refl
content_num (x ∷ t) r h =
    (λ i. cond (apart x 34 h.0 refl i) (Some []) (cond (apart x 92 h.0 refl i) (content after_backslash (t ++ 34 ∷ r)) (cond (not_low x h.0 i) None (prepend (x ∷ []) (content plain (t ++ 34 ∷ r)))))) ∙ ap (prepend (x ∷ [])) (content_num t r h.1)
