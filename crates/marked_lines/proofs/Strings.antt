-- Inside a string: what comes behind the closing quote plays no part, and a string with none is bad.
use Rattle.std.proofs.Common.{◌≡◌, ℕ, List, [], ◌∷◌, ◌++◌, Bool, true, false, cond, ◌==◌, ◌&&◌, nat_lt, Option, Some, None, IsSome, option_and_then, refl, sym, ap, ap₂, subst, ◌∙◌}
use Rattle.std.proofs.lemmas.Bool.{false≢true, eqb-true, and_parts}
use Rattle.std.specs.Char.{is_digit, encode_utf8}
use Rattle.json.specs.Text.{Within, plain, after_backslash, after_u, after_high, content, code_unit, short_escape, is_high_surrogate, is_low_surrogate, surrogate_pair, prepend}
use Rattle.json.specs.Lex.{Lexeme, quote, backslash, operator, space, other, Mode, between, in_string, in_escape, lex_byte, lex}
use Rattle.json.specs.Word.{is_operator, is_space}
use Rattle.marked_lines.specs.Cut.{inside}

-- ---- the lexer passes over a string

abbrev mode_of : Bool → Mode
mode_of false = in_string
mode_of true = in_escape

in_text : (q s o p : Bool) (x : ℕ) (xs : List ℕ) (k : Mode → List Lexeme) → lex_byte in_string (cond q quote (cond s backslash (cond o operator (cond p space other)))) x xs k ≡ cond q (k between) (k (mode_of s))
in_text true s o p x xs k = refl
in_text false true o p x xs k = refl
in_text false false true p x xs k = refl
in_text false false false true x xs k = refl
in_text false false false false x xs k = refl

pub passes_text : (kept : Bool) (t rest : List ℕ) → inside kept t ≡ Some false → lex (mode_of kept) (t ++ 34 ∷ rest) ≡ lex between rest
unfolding lex
passes_text true [] rest h = cc
passes_text false [] rest h = refl
passes_text true (x ∷ xs) rest h = passes_text false xs rest h
passes_text false (x ∷ xs) rest h =
    in_text (x == 34) (x == 92) (is_operator x) (is_space x) x (xs ++ 34 ∷ rest) (λ n. lex n (xs ++ 34 ∷ rest)) ∙ step (x == 34) (x == 92) h (λ g. passes_text (x == 92) xs rest g)
  where
    step : (q s : Bool) → cond q None (inside s xs) ≡ Some false → (inside s xs ≡ Some false → lex (mode_of s) (xs ++ 34 ∷ rest) ≡ lex between rest) → cond q (lex between (xs ++ 34 ∷ rest)) (lex (mode_of s) (xs ++ 34 ∷ rest)) ≡ lex between rest
    step true s g f = cc
    step false s g f = f g

-- ---- four hex digits

abbrev four : ℕ → ℕ → ℕ → ℕ → Bool
four a b c d = is_digit a 16 && is_digit b 16 && is_digit c 16 && is_digit d 16

none_of : (v : Option ℕ) (b : Bool) → b ≡ false → cond b v None ≡ None
none_of v b e = ap (λ t. cond t v None) e

no_unit0 : (b c d : ℕ) → code_unit 34 b c d ≡ None
unfolding code_unit
no_unit0 b c d = refl

no_unit1 : (a c d : ℕ) → code_unit a 34 c d ≡ None
unfolding code_unit
no_unit1 a c d = none_of _ _ (step (is_digit a 16) (is_digit c 16) (is_digit d 16))
  where
    step : (p q r : Bool) → (p && false && q && r) ≡ false
    step true q r = refl
    step false q r = refl

no_unit2 : (a b d : ℕ) → code_unit a b 34 d ≡ None
unfolding code_unit
no_unit2 a b d = none_of _ _ (step (is_digit a 16) (is_digit b 16) (is_digit d 16))
  where
    step : (p q r : Bool) → (p && q && false && r) ≡ false
    step true true r = refl
    step true false r = refl
    step false true r = refl
    step false false r = refl

no_unit3 : (a b c : ℕ) → code_unit a b c 34 ≡ None
unfolding code_unit
no_unit3 a b c = none_of _ _ (step (is_digit a 16) (is_digit b 16) (is_digit c 16))
  where
    step : (p q r : Bool) → (p && q && r && false) ≡ false
    step true true true = refl
    step true true false = refl
    step true false true = refl
    step true false false = refl
    step false true true = refl
    step false true false = refl
    step false false true = refl
    step false false false = refl

u_ends0 : (r : List ℕ) → content after_u (34 ∷ r) ≡ None
unfolding content
u_ends0 [] = refl
u_ends0 (k ∷ []) = refl
u_ends0 (k ∷ l ∷ []) = refl
u_ends0 (k ∷ l ∷ m ∷ r) = ap (option_and_then (λ u. cond (is_high_surrogate u) (content (after_high u) r) (cond (is_low_surrogate u) None (prepend (encode_utf8 u) (content plain r))))) (no_unit0 k l m)

u_ends1 : (x : ℕ) (r : List ℕ) → content after_u (x ∷ 34 ∷ r) ≡ None
unfolding content
u_ends1 x [] = refl
u_ends1 x (k ∷ []) = refl
u_ends1 x (k ∷ l ∷ r) = ap (option_and_then (λ u. cond (is_high_surrogate u) (content (after_high u) r) (cond (is_low_surrogate u) None (prepend (encode_utf8 u) (content plain r))))) (no_unit1 x k l)

u_ends2 : (x y : ℕ) (r : List ℕ) → content after_u (x ∷ y ∷ 34 ∷ r) ≡ None
unfolding content
u_ends2 x y [] = refl
u_ends2 x y (k ∷ r) = ap (option_and_then (λ u. cond (is_high_surrogate u) (content (after_high u) r) (cond (is_low_surrogate u) None (prepend (encode_utf8 u) (content plain r))))) (no_unit2 x y k)

u_ends3 : (x y z : ℕ) (r : List ℕ) → content after_u (x ∷ y ∷ z ∷ 34 ∷ r) ≡ None
unfolding content
u_ends3 x y z r = ap (option_and_then (λ u. cond (is_high_surrogate u) (content (after_high u) r) (cond (is_low_surrogate u) None (prepend (encode_utf8 u) (content plain r))))) (no_unit3 x y z)

both_none : (b : Bool) (o : Option (List ℕ)) → o ≡ None → cond b o None ≡ None
both_none true o e = e
both_none false o e = refl

not_and : (b : Bool) → (b && false) ≡ false
not_and true = refl
not_and false = refl

high_ends0 : (h : ℕ) (r : List ℕ) → content (after_high h) (34 ∷ r) ≡ None
unfolding content
high_ends0 h [] = refl
high_ends0 h (k ∷ []) = refl
high_ends0 h (k ∷ l ∷ []) = refl
high_ends0 h (k ∷ l ∷ m ∷ []) = refl
high_ends0 h (k ∷ l ∷ m ∷ n ∷ []) = refl
high_ends0 h (k ∷ l ∷ m ∷ n ∷ o ∷ r) = refl

high_ends1 : (h : ℕ) (s : ℕ) (r : List ℕ) → content (after_high h) (s ∷ 34 ∷ r) ≡ None
unfolding content
high_ends1 h s [] = refl
high_ends1 h s (k ∷ []) = refl
high_ends1 h s (k ∷ l ∷ []) = refl
high_ends1 h s (k ∷ l ∷ m ∷ []) = refl
high_ends1 h s (k ∷ l ∷ m ∷ n ∷ r) = ap (λ b. cond b (option_and_then (λ v. cond (is_low_surrogate v) (prepend (encode_utf8 (surrogate_pair h v)) (content plain r)) None) (code_unit k l m n)) None) (not_and (s == 92))

high_ends2 : (h : ℕ) (s u : ℕ) (r : List ℕ) → content (after_high h) (s ∷ u ∷ 34 ∷ r) ≡ None
unfolding content
high_ends2 h s u [] = refl
high_ends2 h s u (k ∷ []) = refl
high_ends2 h s u (k ∷ l ∷ []) = refl
high_ends2 h s u (k ∷ l ∷ m ∷ r) = both_none ((s == 92) && (u == 117)) _ (ap (option_and_then (λ v. cond (is_low_surrogate v) (prepend (encode_utf8 (surrogate_pair h v)) (content plain r)) None)) (no_unit0 k l m))

high_ends3 : (h : ℕ) (s u x : ℕ) (r : List ℕ) → content (after_high h) (s ∷ u ∷ x ∷ 34 ∷ r) ≡ None
unfolding content
high_ends3 h s u x [] = refl
high_ends3 h s u x (k ∷ []) = refl
high_ends3 h s u x (k ∷ l ∷ r) = both_none ((s == 92) && (u == 117)) _ (ap (option_and_then (λ v. cond (is_low_surrogate v) (prepend (encode_utf8 (surrogate_pair h v)) (content plain r)) None)) (no_unit1 x k l))

high_ends4 : (h : ℕ) (s u x y : ℕ) (r : List ℕ) → content (after_high h) (s ∷ u ∷ x ∷ y ∷ 34 ∷ r) ≡ None
unfolding content
high_ends4 h s u x y [] = refl
high_ends4 h s u x y (k ∷ r) = both_none ((s == 92) && (u == 117)) _ (ap (option_and_then (λ v. cond (is_low_surrogate v) (prepend (encode_utf8 (surrogate_pair h v)) (content plain r)) None)) (no_unit2 x y k))

high_ends5 : (h : ℕ) (s u x y z : ℕ) (r : List ℕ) → content (after_high h) (s ∷ u ∷ x ∷ y ∷ z ∷ 34 ∷ r) ≡ None
unfolding content
high_ends5 h s u x y z r = both_none ((s == 92) && (u == 117)) _ (ap (option_and_then (λ v. cond (is_low_surrogate v) (prepend (encode_utf8 (surrogate_pair h v)) (content plain r)) None)) (no_unit3 x y z))

-- ---- a hex digit is plain

pass : (x : ℕ) (xs : List ℕ) → is_digit x 16 ≡ true → inside false (x ∷ xs) ≡ inside false xs
pass x xs h = step (x == 34) (x == 92) (λ e. false≢true (sym (ap (λ y. is_digit y 16) (eqb-true x 34 e)) ∙ h)) (λ e. false≢true (sym (ap (λ y. is_digit y 16) (eqb-true x 92 e)) ∙ h))
  where
    step : (q s : Bool) → (q ≡ true → ⊥) → (s ≡ true → ⊥) → cond q None (inside s xs) ≡ inside false xs
    step true s f g = absurd (f refl)
    step false true f g = absurd (g refl)
    step false false f g = refl

four_pass : (a b c d : ℕ) (xs : List ℕ) → four a b c d ≡ true → inside false (a ∷ b ∷ c ∷ d ∷ xs) ≡ inside false xs
four_pass a b c d xs h =
    let digits = parts (is_digit a 16) (is_digit b 16) (is_digit c 16) (is_digit d 16) h in
    pass a (b ∷ c ∷ d ∷ xs) digits.0 ∙ pass b (c ∷ d ∷ xs) digits.1 ∙ pass c (d ∷ xs) digits.2 ∙ pass d xs digits.3
  where
    parts : (p q r s : Bool) → (p && q && r && s) ≡ true → (p ≡ true) × (q ≡ true) × (r ≡ true) × (s ≡ true)
    parts true true true true h = (refl, refl, refl, refl)
    parts true true true false h = absurd (false≢true h)
    parts true true false s h = absurd (false≢true h)
    parts true false r s h = absurd (false≢true h)
    parts false q r s h = absurd (false≢true h)

-- the same unit on both sides
unit_same : (b : Bool) (v : ℕ) (f g : ℕ → Option (List ℕ)) → (b ≡ true → f v ≡ g v) → option_and_then f (cond b (Some v) None) ≡ option_and_then g (cond b (Some v) None)
unit_same true v f g e = e refl
unit_same false v f g e = refl

surrogate_same : (h l : Bool) (p p' q q' : Option (List ℕ)) (e : List ℕ) → p ≡ p' → q ≡ q' → cond h p (cond l None (prepend e q)) ≡ cond h p' (cond l None (prepend e q'))
surrogate_same true l p p' q q' e i j = i
surrogate_same false true p p' q q' e i j = refl
surrogate_same false false p p' q q' e i j = ap (prepend e) j

low_same : (l : Bool) (q q' : Option (List ℕ)) (e : List ℕ) → q ≡ q' → cond l (prepend e q) None ≡ cond l (prepend e q') None
low_same true q q' e j = ap (prepend e) j
low_same false q q' e j = refl

if_so_same : (b : Bool) (p q : Option (List ℕ)) → (b ≡ true → p ≡ q) → cond b p None ≡ cond b q None
if_so_same true p q e = e refl
if_so_same false p q e = refl

abbrev kept_of : Within → Bool
kept_of plain = false
kept_of after_backslash = true
kept_of after_u = false
kept_of (after_high h) = false

abbrev escaped_pair : ℕ → ℕ → Bool
escaped_pair s u = (s == 92) && (u == 117)

-- `\u` among the bytes of a string
pair_pass : (s u : ℕ) (xs : List ℕ) → escaped_pair s u ≡ true → inside false (s ∷ u ∷ xs) ≡ inside false xs
pair_pass s u xs h =
    let tests = and_parts (s == 92) (u == 117) h in
    ap (λ y. inside false (y ∷ u ∷ xs)) (eqb-true s 92 tests.0)

module _ (a b : List ℕ) where
  plain_step : (q s l : Bool) (x : ℕ) (xs : List ℕ) (A B P Q : Option (List ℕ)) → cond q None (inside s xs) ≡ Some false → (inside true xs ≡ Some false → A ≡ B) → (inside false xs ≡ Some false → P ≡ Q)
      → cond q (Some []) (cond s A (cond l None (prepend (x ∷ []) P))) ≡ cond q (Some []) (cond s B (cond l None (prepend (x ∷ []) Q)))
  plain_step true s l x xs A B P Q h f g = refl
  plain_step false true l x xs A B P Q h f g = f h
  plain_step false false true x xs A B P Q h f g = refl
  plain_step false false false x xs A B P Q h f g = ap (prepend (x ∷ [])) (g h)

  -- the content of a closed string is the same whatever follows it
  pub same_content : (w : Within) (t : List ℕ) → inside (kept_of w) t ≡ Some false → content w (t ++ 34 ∷ a) ≡ content w (t ++ 34 ∷ b)
  unfolding content code_unit
  same_content plain [] h = refl
  same_content plain (x ∷ xs) h = plain_step (x == 34) (x == 92) (nat_lt x 32) x xs _ _ _ _ h (λ g. same_content after_backslash xs g) (λ g. same_content plain xs g)
  same_content after_backslash [] h = cc
  same_content after_backslash (x ∷ xs) h = ap₂ (λ u p. cond (x == 117) u (option_and_then (λ c. prepend (c ∷ []) p) (short_escape x))) (same_content after_u xs h) (same_content plain xs h)
  same_content after_u [] h = u_ends0 a ∙ sym (u_ends0 b)
  same_content after_u (x ∷ []) h = u_ends1 x a ∙ sym (u_ends1 x b)
  same_content after_u (x ∷ y ∷ []) h = u_ends2 x y a ∙ sym (u_ends2 x y b)
  same_content after_u (x ∷ y ∷ z ∷ []) h = u_ends3 x y z a ∙ sym (u_ends3 x y z b)
  same_content after_u (x ∷ y ∷ z ∷ w ∷ xs) h =
      unit_same (four x y z w) _ _ _ (λ e.
      let g = sym (four_pass x y z w xs e) ∙ h in surrogate_same _ _ _ _ _ _ _ (same_content (after_high _) xs g) (same_content plain xs g))
  same_content (after_high n) [] h = high_ends0 n a ∙ sym (high_ends0 n b)
  same_content (after_high n) (s ∷ []) h = high_ends1 n s a ∙ sym (high_ends1 n s b)
  same_content (after_high n) (s ∷ u ∷ []) h = high_ends2 n s u a ∙ sym (high_ends2 n s u b)
  same_content (after_high n) (s ∷ u ∷ x ∷ []) h = high_ends3 n s u x a ∙ sym (high_ends3 n s u x b)
  same_content (after_high n) (s ∷ u ∷ x ∷ y ∷ []) h = high_ends4 n s u x y a ∙ sym (high_ends4 n s u x y b)
  same_content (after_high n) (s ∷ u ∷ x ∷ y ∷ z ∷ []) h = high_ends5 n s u x y z a ∙ sym (high_ends5 n s u x y z b)
  same_content (after_high n) (s ∷ u ∷ x ∷ y ∷ z ∷ w ∷ xs) h =
      if_so_same (escaped_pair s u) _ _ (λ e. unit_same (four x y z w) _ _ _ (λ f.
      let g = sym (four_pass x y z w xs f) ∙ sym (pair_pass s u (x ∷ y ∷ z ∷ w ∷ xs) e) ∙ h in low_same _ _ _ _ (same_content plain xs g)))

-- ---- a string that no quote ends

open_step : (q s l : Bool) (x : ℕ) (xs : List ℕ) (A P : Option (List ℕ)) → IsSome (cond q None (inside s xs)) → (IsSome (inside true xs) → A ≡ None) → (IsSome (inside false xs) → P ≡ None)
    → cond q (Some []) (cond s A (cond l None (prepend (x ∷ []) P))) ≡ None
open_step true s l x xs A P h f g = cc
open_step false true l x xs A P h f g = f h
open_step false false true x xs A P h f g = refl
open_step false false false x xs A P h f g = ap (prepend (x ∷ [])) (g h)

unit_none : (b : Bool) (v : ℕ) (f : ℕ → Option (List ℕ)) → (b ≡ true → f v ≡ None) → option_and_then f (cond b (Some v) None) ≡ None
unit_none true v f e = e refl
unit_none false v f e = refl

if_so_none : (b : Bool) (p : Option (List ℕ)) → (b ≡ true → p ≡ None) → cond b p None ≡ None
if_so_none true p e = e refl
if_so_none false p e = refl

surrogate_none : (h l : Bool) (p q : Option (List ℕ)) (e : List ℕ) → p ≡ None → q ≡ None → cond h p (cond l None (prepend e q)) ≡ None
surrogate_none true l p q e i j = i
surrogate_none false true p q e i j = refl
surrogate_none false false p q e i j = ap (prepend e) j

low_none : (l : Bool) (q : Option (List ℕ)) (e : List ℕ) → q ≡ None → cond l (prepend e q) None ≡ None
low_none true q e j = ap (prepend e) j
low_none false q e j = refl

short_none : (b : Bool) (p q : Option (List ℕ)) (o : Option ℕ) → p ≡ None → q ≡ None → cond b p (option_and_then (λ c. prepend (c ∷ []) q) o) ≡ None
short_none true p q o i j = i
short_none false p q None i j = refl
short_none false p q (Some c) i j = ap (prepend (c ∷ [])) j

pub open_content : (w : Within) (t : List ℕ) → IsSome (inside (kept_of w) t) → content w t ≡ None
unfolding content code_unit
open_content plain [] h = refl
open_content plain (x ∷ xs) h = open_step (x == 34) (x == 92) (nat_lt x 32) x xs _ _ h (λ g. open_content after_backslash xs g) (λ g. open_content plain xs g)
open_content after_backslash [] h = refl
open_content after_backslash (x ∷ xs) h = short_none (x == 117) _ _ (short_escape x) (open_content after_u xs h) (open_content plain xs h)
open_content after_u [] h = refl
open_content after_u (x ∷ []) h = refl
open_content after_u (x ∷ y ∷ []) h = refl
open_content after_u (x ∷ y ∷ z ∷ []) h = refl
open_content after_u (x ∷ y ∷ z ∷ w ∷ xs) h =
    unit_none (four x y z w) _ _ (λ e.
    let g = subst IsSome (four_pass x y z w xs e) h in surrogate_none _ _ _ _ _ (open_content (after_high _) xs g) (open_content plain xs g))
open_content (after_high n) [] h = refl
open_content (after_high n) (s ∷ []) h = refl
open_content (after_high n) (s ∷ u ∷ []) h = refl
open_content (after_high n) (s ∷ u ∷ x ∷ []) h = refl
open_content (after_high n) (s ∷ u ∷ x ∷ y ∷ []) h = refl
open_content (after_high n) (s ∷ u ∷ x ∷ y ∷ z ∷ []) h = refl
open_content (after_high n) (s ∷ u ∷ x ∷ y ∷ z ∷ w ∷ xs) h =
    if_so_none (escaped_pair s u) _ (λ e. unit_none (four x y z w) _ _ (λ f.
    let g = subst IsSome (pair_pass s u (x ∷ y ∷ z ∷ w ∷ xs) e ∙ four_pass x y z w xs f) h in low_none _ _ _ (open_content plain xs g)))
