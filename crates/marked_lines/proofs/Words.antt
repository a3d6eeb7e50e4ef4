-- A word that begins no number: one of the three literals, or bad.
use Rattle.std.proofs.Common.{◌≡◌, ◌⊎◌, inl, inr, ℕ, ◌+◌, List, [], ◌∷◌, ◌++◌, drop, Bool, true, false, cond, ◌==◌, ◌&&◌, ◌||◌, nat_eq, Some, None, length, option_and_then, refl, sym, ap, ap₂, ◌∙◌}
use Rattle.std.proofs.lemmas.Bool.{false≢true, true≢false, eqb-true, and_parts}
use Rattle.std.proofs.Math.Seq.{drop-append_seam}
use Rattle.std.specs.List.{prefix_len, starts_with}
use Rattle.std.specs.Char.{is_ascii_digit}
use Rattle.json.specs.Ascii as ascii
use Rattle.json.specs.Token.{Token, boolean, null, bad}
use Rattle.json.specs.Lex.{token, between, lex}
use Rattle.json.specs.Word.{head, ends_word, after_number, after_whole, after_fraction, after_exponent, number_before, literal, word}
use Rattle.marked_lines.specs.Cut.{begins_number}
use Rattle.marked_lines.proofs.Good.{sane}
use Rattle.marked_lines.proofs.Tokens.{ends_between}

-- ---- no number

whole_none : (x : ℕ) (r : List ℕ) → (x == 48) ≡ false → is_ascii_digit x ≡ false → after_whole (x ∷ r) ≡ None
whole_none x r z d = λ i. cond (z i) (Some r) (cond (cond (d i) (1 + prefix_len is_ascii_digit r) 0 == 0) None (Some (drop (cond (d i) (1 + prefix_len is_ascii_digit r) 0) (x ∷ r))))

not_zero : (x : ℕ) → is_ascii_digit x ≡ false → (x == 48) ≡ false
not_zero x d = step (x == 48) (λ e. eqb-true x 48 e)
  where
    step : (b : Bool) → (b ≡ true → x ≡ 48) → b ≡ false
    step true f = absurd (true≢false (sym (ap is_ascii_digit (f refl)) ∙ d))
    step false f = refl

or_none : (a b : Bool) → (a || b) ≡ false → (a ≡ false) × (b ≡ false)
or_none true b h = absurd (true≢false h)
or_none false b h = (refl, h)

not_number : (x : ℕ) (r : List ℕ) → begins_number x ≡ false → after_number (x ∷ r) ≡ None
unfolding after_number
not_number x r h =
    let e = or_none (x == 45) (is_ascii_digit x) h in
    ap (λ m. option_and_then after_exponent (option_and_then after_fraction (after_whole (cond m r (x ∷ r))))) e.0
    ∙ ap (λ o. option_and_then after_exponent (option_and_then after_fraction o)) (whole_none x r (not_zero x e.1) e.1)

-- ---- a word that is not bad

-- the byte x is c, and a literal that goes on with these letters ends there
pub record Literal (x c : ℕ) (letters bytes : List ℕ) : Type 0 where
  pub first : x ≡ c
  pub behind : List ℕ
  pub rest : bytes ≡ letters ++ behind
  pub end : ends_word behind ≡ true

abbrev pub rest_of_true : List ℕ
rest_of_true = 114 ∷ 117 ∷ 101 ∷ []

abbrev pub rest_of_false : List ℕ
rest_of_false = 97 ∷ 108 ∷ 115 ∷ 101 ∷ []

abbrev pub rest_of_null : List ℕ
rest_of_null = 117 ∷ 108 ∷ 108 ∷ []

abbrev pub IsLiteral : ℕ → List ℕ → Type 0
IsLiteral x r = Literal x 116 rest_of_true r ⊎ (Literal x 102 rest_of_false r ⊎ Literal x 110 rest_of_null r)

literal_parts : (s e : Bool) (t : Token) → sane (cond (s && e) t bad) ≡ true → (s ≡ true) × (e ≡ true)
literal_parts true true t g = (refl, refl)
literal_parts true false t g = absurd (false≢true g)
literal_parts false e t g = absurd (false≢true g)

-- a text that begins with the name is the name and what is behind it
spelled : (name bytes : List ℕ) → starts_with nat_eq bytes name ≡ true → (m : List ℕ) × (bytes ≡ name ++ m)
spelled [] bytes h = (bytes, refl)
spelled (a ∷ name) [] h = absurd (false≢true h)
spelled (a ∷ name) (b ∷ bytes) h =
    let parts = and_parts (a == b) (starts_with nat_eq bytes name) h in
    let more = spelled name bytes parts.1 in (more.0, ap₂ (λ x l. x ∷ l) (sym (eqb-true a b parts.0)) more.1)

module _ (x : ℕ) (r : List ℕ) where
  named : (c : ℕ) (letters : List ℕ) (t : Token) → sane (literal (c ∷ letters) t (x ∷ r)) ≡ true → Literal x c letters r
  named c letters t g =
      let name : List ℕ = c ∷ letters in
      let parts = literal_parts (starts_with nat_eq (x ∷ r) name) (ends_word (drop (length name) (x ∷ r))) t g in
      let p = spelled name (x ∷ r) parts.0 in
      let behind : drop (length name) (x ∷ r) ≡ p.0 = ap (drop (length name)) p.1 ∙ drop-append_seam name p.0 in
      record { first = ap head p.1; behind = p.0; rest = ap (drop 1) p.1; end = sym (ap ends_word behind) ∙ parts.1 }

  pub word_is_literal : begins_number x ≡ false → sane (word (x ∷ r)) ≡ true → IsLiteral x r
  unfolding word
  word_is_literal n s = step (x == 116) (x == 102) (x == 110) s
    where
      step : (a b d : Bool)
          → sane (cond a (literal ascii.true_text (boolean true) (x ∷ r)) (cond b (literal ascii.false_text (boolean false) (x ∷ r)) (cond d (literal ascii.null_text null (x ∷ r)) (number_before (x ∷ r) (after_number (x ∷ r)))))) ≡ true → IsLiteral x r
      step true b d g = inl (named 116 rest_of_true (boolean true) g)
      step false true d g = inr (inl (named 102 rest_of_false (boolean false) g))
      step false false true g = inr (inr (named 110 rest_of_null null g))
      step false false false g = absurd (false≢true (sym (ap (λ o. sane (number_before (x ∷ r) o)) (not_number x r n)) ∙ g))

pub lex_true : (r : List ℕ) → ends_word r ≡ true → lex between (116 ∷ 114 ∷ 117 ∷ 101 ∷ r) ≡ token (boolean true) ∷ lex between r
unfolding lex word
lex_true r h = ap₂ (λ b l. token (cond b (boolean true) bad) ∷ l) h (ends_between r h)

pub lex_false : (r : List ℕ) → ends_word r ≡ true → lex between (102 ∷ 97 ∷ 108 ∷ 115 ∷ 101 ∷ r) ≡ token (boolean false) ∷ lex between r
unfolding lex word
lex_false r h = ap₂ (λ b l. token (cond b (boolean false) bad) ∷ l) h (ends_between r h)

pub lex_null : (r : List ℕ) → ends_word r ≡ true → lex between (110 ∷ 117 ∷ 108 ∷ 108 ∷ r) ≡ token null ∷ lex between r
unfolding lex word
lex_null r h = ap₂ (λ b l. token (cond b null bad) ∷ l) h (ends_between r h)
