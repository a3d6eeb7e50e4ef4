-- A line with no bad lexeme and its marked text have the same lexemes, marked.
use Rattle.std.proofs.Common.{◌≡◌, ◌≤◌, inl, inr, ℕ, zero, suc, List, [], ◌∷◌, ◌++◌, length, drop, Bool, true, false, cond, not, ◌==◌, ◌&&◌, refl, sym, ap, ap₂, subst, ◌∙◌, arith, append_assoc, length-append, append-nil}
use Rattle.std.proofs.lemmas.Bool.{false≢true, eqb-true, and_parts}
use Rattle.std.specs.List.{AllByRecursion}
use Rattle.json.specs.Token.{Token, boolean, null}
use Rattle.json.specs.Lex.{token, Class, quote, backslash, operator, space, other, class, between, in_word, lex_byte, lex}
use Rattle.json.specs.Word.{head, ends_word, is_operator, is_space, word}
use Rattle.marked_lines.specs.Cut.{begins_number, Piece, string, number, single, IsText, IsPiece, IsCut, spelling, IsSound}
use Rattle.marked_lines.specs.Inner.Marks.{mark_token}
use Rattle.marked_lines.proofs.Good.{sane, good}
use Rattle.marked_lines.proofs.Tokens.{no_end}
use Rattle.marked_lines.proofs.Lexing.{relabel, marked_of, Relexed, good_rest, closed_good, closed_lex, open_bad, digit_or_minus, number_case, operator-mark, operator-good}
use Rattle.marked_lines.proofs.Words.{IsLiteral, word_is_literal, rest_of_true, rest_of_false, rest_of_null, lex_true, lex_false, lex_null}

-- none of the bytes is a quote or begins a number
abbrev pub are_single : List ℕ → Bool
are_single [] = true
are_single (b ∷ w) = not (b == 34) && (not (begins_number b) && are_single w)

pub no_quote : (b : ℕ) (w : List ℕ) → are_single (b ∷ w) ≡ true → b ≡ 34 → ⊥
no_quote b w q e = false≢true (sym (ap (λ y. are_single (y ∷ w)) e) ∙ q)

no_number : (b : ℕ) (w : List ℕ) → are_single (b ∷ w) ≡ true → begins_number b ≡ true → ⊥
no_number b w q e = step (not (b == 34)) (begins_number b) q e
  where
    step : (p n : Bool) → (p && (not n && are_single w)) ≡ true → n ≡ true → ⊥
    step true true g f = false≢true g
    step false n g f = false≢true g
    step true false g f = false≢true f

pub others_single : (b : ℕ) (w : List ℕ) → are_single (b ∷ w) ≡ true → are_single w ≡ true
others_single b w q = (and_parts (not (begins_number b)) (are_single w) (and_parts (not (b == 34)) (not (begins_number b) && are_single w) q).1).1

-- the pieces behind these bytes, each of which is one piece
record Taken (w m : List ℕ) (ps : List Piece) : Type 0 where
  pieces : List Piece
  cut : IsCut m pieces
  text : marked_of ps ≡ w ++ marked_of pieces
  sound : AllByRecursion IsSound pieces → AllByRecursion IsSound ps

taken : (w m rest : List ℕ) (ps : List Piece) → are_single w ≡ true → IsCut rest ps → rest ≡ w ++ m → Taken w m ps
taken [] m rest ps q c e = record { pieces = ps; cut = subst (λ l. IsCut l ps) e c; text = refl; sound = λ s. s }
taken (b ∷ w) m rest [] q c e = let f : [] ≡ b ∷ (w ++ m) = sym c ∙ e in cc
taken (b ∷ w) m rest (string a ∷ ps) q c e = absurd (no_quote b w q (sym (ap head (sym c.1 ∙ e))))
taken (b ∷ w) m rest (number [] ∷ ps) q c e = absurd (false≢true c.2.0)
taken (b ∷ w) m rest (number (y ∷ t) ∷ ps) q c e = absurd (no_number b w q (sym (ap begins_number (ap head (sym c.1 ∙ e))) ∙ c.2.0))
taken (b ∷ w) m rest (single y ∷ ps) q c e =
    let f : y ∷ c.0 ≡ b ∷ (w ++ m) = sym c.1 ∙ e in
    let t = taken w m c.0 ps (others_single b w q) c.3 (ap (drop 1) f) in
    record { pieces = t.pieces; cut = t.cut; text = ap₂ (λ a l. a ∷ l) (ap head f) t.text; sound = λ s. (tt, t.sound s) }

end_no_number : (y : ℕ) (r : List ℕ) → ends_word (y ∷ r) ≡ true → begins_number y ≡ true → ⊥
end_no_number y r h e = false≢true (sym (no_end y r (digit_or_minus y e)) ∙ h)

-- what ends a word ends it in the marked text
ends_kept : (r : List ℕ) (qs : List Piece) → IsCut r qs → ends_word r ≡ true → ends_word (marked_of qs) ≡ true
ends_kept r [] c h = refl
ends_kept r (string a ∷ qs) c h = absurd (false≢true (sym (ap ends_word c.1) ∙ h))
ends_kept r (number [] ∷ qs) c h = absurd (false≢true c.2.0)
ends_kept r (number (y ∷ t) ∷ qs) c h = absurd (end_no_number y (t ++ c.0) (sym (ap ends_word c.1) ∙ h) c.2.0)
ends_kept r (single y ∷ qs) c h = sym (ap ends_word c.1) ∙ h

pub lexed : (x : ℕ) (k : Class) (r : List ℕ) → class x ≡ k → lex between (x ∷ r) ≡ lex_byte between k x r (λ n. lex n r)
unfolding lex
lexed x k r e = ap (λ c. lex_byte between c x r (λ n. lex n r)) e

module _ (rest : List ℕ) (ps : List Piece) (c : IsCut rest ps) (ih : (r : List ℕ) (qs : List Piece) → length r ≤ length rest → IsCut r qs → good (lex between r) ≡ true → Relexed r qs) where
  at_literal : (x : ℕ) (w m : List ℕ) (t : Token) → are_single w ≡ true → mark_token t ≡ t → ((r : List ℕ) → ends_word r ≡ true → lex between (x ∷ (w ++ r)) ≡ token t ∷ lex between r)
      → rest ≡ w ++ m → ends_word m ≡ true → good (lex between (x ∷ rest)) ≡ true → Relexed (x ∷ rest) (single x ∷ ps)
  at_literal x w m t q same there e end g =
      let p = taken w m rest ps q c e in
      let line : lex between (x ∷ rest) ≡ token t ∷ lex between m = ap (λ l. lex between (x ∷ l)) e ∙ there m end in
      let r = ih m p.pieces (omega (arith, ap length e, length-append w m)) p.cut (good_rest t (lex between m) (sym (ap good line) ∙ g)) in
      ((tt, p.sound r.0), ap (λ l. lex between (x ∷ l)) p.text ∙ there (marked_of p.pieces) (ends_kept m p.pieces p.cut end) ∙ ap₂ (λ a l. token a ∷ l) (sym same) r.1 ∙ ap relabel (sym line))

  by_literal : (x : ℕ) → IsLiteral x rest → good (lex between (x ∷ rest)) ≡ true → Relexed (x ∷ rest) (single x ∷ ps)
  by_literal x (inl l) g = subst (λ y. Relexed (y ∷ rest) (single y ∷ ps)) (sym l.first) (at_literal 116 rest_of_true l.behind (boolean true) refl refl lex_true l.rest l.end (sym (ap (λ y. good (lex between (y ∷ rest))) l.first) ∙ g))
  by_literal x (inr (inl l)) g = subst (λ y. Relexed (y ∷ rest) (single y ∷ ps)) (sym l.first) (at_literal 102 rest_of_false l.behind (boolean false) refl refl lex_false l.rest l.end (sym (ap (λ y. good (lex between (y ∷ rest))) l.first) ∙ g))
  by_literal x (inr (inr l)) g = subst (λ y. Relexed (y ∷ rest) (single y ∷ ps)) (sym l.first) (at_literal 110 rest_of_null l.behind null refl refl lex_null l.rest l.end (sym (ap (λ y. good (lex between (y ∷ rest))) l.first) ∙ g))

  by_word : (x : ℕ) → begins_number x ≡ false → lex between (x ∷ rest) ≡ token (word (x ∷ rest)) ∷ lex in_word rest → good (lex between (x ∷ rest)) ≡ true → Relexed (x ∷ rest) (single x ∷ ps)
  by_word x n l g = by_literal x (word_is_literal x rest n (and_parts (sane (word (x ∷ rest))) (good (lex in_word rest)) (sym (ap good l) ∙ g)).0) g

  single_case : (x : ℕ) → (x ≡ 34 → ⊥) → begins_number x ≡ false → good (lex between (x ∷ rest)) ≡ true → Relexed (x ∷ rest) (single x ∷ ps)
  single_case x apart n g = step (x == 34) (x == 92) (is_operator x) (is_space x) (λ e. apart (eqb-true x 34 e)) refl
    where
      step : (q s o p : Bool) → (q ≡ true → ⊥) → class x ≡ cond q quote (cond s backslash (cond o operator (cond p space other))) → Relexed (x ∷ rest) (single x ∷ ps)
      step true s o p f k = absurd (f refl)
      step false true o p f k = absurd (false≢true (sym (ap good (lexed x backslash rest k)) ∙ g))
      step false false true p f k =
          let r = ih rest ps (omega arith) c (operator-good x (lex between rest) (sym (ap good (lexed x operator rest k)) ∙ g)) in
          ((tt, r.0), lexed x operator (marked_of ps) k ∙ ap₂ (λ a l. a ∷ l) (sym (operator-mark x)) r.1 ∙ ap relabel (sym (lexed x operator rest k)))
      step false false false true f k =
          let r = ih rest ps (omega arith) c (sym (ap good (lexed x space rest k)) ∙ g) in
          ((tt, r.0), lexed x space (marked_of ps) k ∙ r.1 ∙ ap relabel (sym (lexed x space rest k)))
      step false false false false f k = by_word x n (lexed x other rest k) g

-- the string of a piece
string_case : (b rest : List ℕ) (ps : List Piece) → IsText b rest → (good (lex between rest) ≡ true → Relexed rest ps) → good (lex between (34 ∷ (b ++ rest))) ≡ true → Relexed (34 ∷ (b ++ rest)) (string b ∷ ps)
string_case b rest ps (inr h) ih g = absurd (open_bad b h.0 (ap (λ l. good (lex between (34 ∷ l))) (sym (ap (λ r. b ++ r) h.1 ∙ append-nil b)) ∙ g))
string_case b rest ps (inl h) ih g =
    let whole : (r : List ℕ) → b ++ r ≡ h.0 ++ 34 ∷ r = λ r. ap (λ l. l ++ r) h.1 ∙ append_assoc h.0 (34 ∷ []) r in
    let r = ih (closed_good h.0 rest h.2 (ap (λ l. good (lex between (34 ∷ l))) (sym (whole rest)) ∙ g)) in
    ((tt, r.0), ap (λ l. lex between (34 ∷ 115 ∷ l)) (whole (marked_of ps)) ∙ closed_lex h.0 rest (marked_of ps) h.2 r.1 ∙ ap (λ l. relabel (lex between (34 ∷ l))) (sym (whole rest)))

number_piece : (t rest : List ℕ) (ps : List Piece) → IsPiece (number t) rest → (good (lex between rest) ≡ true → Relexed rest ps) → good (lex between (t ++ rest)) ≡ true → Relexed (t ++ rest) (number t ∷ ps)
number_piece [] rest ps h ih g = absurd (false≢true h.0)
number_piece (x ∷ u) rest ps h ih g =
    let n = number_case x u rest h.1 g in
    let r = ih n.goes_on in
    ((n.sound, r.0), ap (λ l. lex between (34 ∷ 110 ∷ l)) (append_assoc (x ∷ u) (34 ∷ []) (marked_of ps)) ∙ n.same (marked_of ps) r.1)

pub shorter : (p : Piece) (rest : List ℕ) → IsPiece p rest → suc (length rest) ≤ length (spelling p ++ rest)
shorter (string b) rest h = omega (arith, length-append b rest)
shorter (number []) rest h = absurd (false≢true h.0)
shorter (number (x ∷ u)) rest h = omega (arith, length-append u rest)
shorter (single x) rest h = omega arith

piece_case : (p : Piece) (rest : List ℕ) (ps : List Piece) → IsPiece p rest → IsCut rest ps → ((r : List ℕ) (qs : List Piece) → length r ≤ length rest → IsCut r qs → good (lex between r) ≡ true → Relexed r qs)
    → good (lex between (spelling p ++ rest)) ≡ true → Relexed (spelling p ++ rest) (p ∷ ps)
piece_case (string b) rest ps h c ih g = string_case b rest ps h (ih rest ps (omega arith) c) g
piece_case (number t) rest ps h c ih g = number_piece t rest ps h (ih rest ps (omega arith) c) g
piece_case (single x) rest ps h c ih g = single_case rest ps c ih x h.0 h.1 g

-- the lexemes of the marked text
pub relexed : (n : ℕ) (bytes : List ℕ) (ps : List Piece) → length bytes ≤ n → IsCut bytes ps → good (lex between bytes) ≡ true → Relexed bytes ps
unfolding lex
relexed n bytes [] le c g = subst (λ l. Relexed l []) (sym c) (tt, refl)
relexed zero bytes (p ∷ ps) le c g = absurd (omega (arith, shorter p c.0 c.2, ap length c.1))
relexed (suc n) bytes (p ∷ ps) le c g =
    subst (λ l. Relexed l (p ∷ ps)) (sym c.1)
    (piece_case p c.0 ps c.2 c.3 (λ r qs l k f. relexed n r qs (omega (arith, shorter p c.0 c.2, ap length c.1)) k f) (ap (λ l. good (lex between l)) (sym c.1) ∙ g))
