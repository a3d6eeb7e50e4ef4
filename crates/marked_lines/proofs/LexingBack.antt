-- A marked text with no bad lexeme, and with no value right behind another, has the lexemes of its line, marked.
use Rattle.std.proofs.Common.{◌≡◌, ◌≤◌, inl, inr, ℕ, zero, suc, List, [], ◌∷◌, ◌++◌, length, drop, Bool, true, false, cond, ◌==◌, ◌||◌, Option, Some, None, IsSome, refl, sym, ap, ap₂, subst, ◌∙◌, arith, append_assoc, length-append, append-nil}
use Rattle.std.proofs.lemmas.Bool.{false≢true, true≢false, eqb-true}
use Rattle.std.specs.List.{AllByRecursion}
use Rattle.json.specs.Ascii as ascii
use Rattle.json.specs.Token.{Token, begin_object, end_object, begin_array, end_array, boolean, null, bad}
use Rattle.json.specs.Text.{plain, content, prepend}
use Rattle.json.specs.Lex.{Lexeme, token, comma, colon, quote, backslash, operator, space, other, class, operator_lexeme, string_token, between, in_word, lex_byte, lex}
use Rattle.json.specs.Word.{head, ends_word, is_operator, is_space, after_number, number_before, literal, word}
use Rattle.marked_lines.specs.Cut.{begins_number, inside, Piece, string, number, single, IsText, IsPiece, IsCut, spelling, IsSound}
use Rattle.marked_lines.specs.Inner.Marks.{mark_token}
use Rattle.marked_lines.proofs.Good.{sane}
use Rattle.marked_lines.proofs.Backward.{no_pieces}
use Rattle.marked_lines.proofs.Apart.{single_value, begins_value, Spaced}
use Rattle.marked_lines.proofs.Strings.{passes_text, open_content}
use Rattle.marked_lines.proofs.Tokens.{greedy, number_read}
use Rattle.marked_lines.proofs.Lexing.{relabel, marked_of, closed_lex, number_there, number_text, operator-mark}
use Rattle.marked_lines.proofs.Words.{IsLiteral, word_is_literal, rest_of_true, rest_of_false, rest_of_null, lex_true, lex_false, lex_null}
use Rattle.marked_lines.proofs.Relexing.{are_single, no_quote, others_single, lexed, shorter}

abbrev Sound : List Piece → Type 0
Sound ps = AllByRecursion IsSound ps

-- what is shown of each cut
abbrev Lexed : List ℕ → List Piece → Type 0
Lexed bytes ps = lex between (marked_of ps) ≡ relabel (lex between bytes)

abbrev Back : List ℕ → List Piece → Type 0
Back bytes ps = Spaced (lex between (marked_of ps)) → Lexed bytes ps

-- ---- where no value begins, a word ends

single_string : (o : Option (List ℕ)) → single_value (string_token o) ≡ true
single_string None = refl
single_string (Some s) = refl

single_either : (b : Bool) (t u : Token) → single_value t ≡ true → single_value u ≡ true → single_value (cond b t u) ≡ true
single_either true t u h g = h
single_either false t u h g = g

single_number : (t : List ℕ) (o : Option (List ℕ)) → single_value (number_before t o) ≡ true
single_number t None = refl
single_number t (Some r) = single_either (ends_word r) _ bad refl refl

single_word : (t : List ℕ) → single_value (word t) ≡ true
unfolding word
single_word t =
    single_either (head t == 116) (literal ascii.true_text (boolean true) t) _ (single_either _ (boolean true) bad refl refl)
    (single_either (head t == 102) (literal ascii.false_text (boolean false) t) _ (single_either _ (boolean false) bad refl refl)
    (single_either (head t == 110) (literal ascii.null_text null t) _ (single_either _ null bad refl refl) (single_number t (after_number t))))

ends_before : (r : List ℕ) → begins_value (lex between r) ≡ false → ends_word r ≡ true
unfolding lex
ends_before [] h = refl
ends_before (y ∷ r) h = step (y == 34) (y == 92) (is_operator y) (is_space y) h
  where
    step : (q s o p : Bool) → begins_value (lex_byte between (cond q quote (cond s backslash (cond o operator (cond p space other)))) y r (λ n. lex n r)) ≡ false → (o || p) ≡ true
    step true s o p g = absurd (true≢false (sym (single_string (content plain r)) ∙ g))
    step false true o p g = absurd (true≢false g)
    step false false true p g = refl
    step false false false true g = refl
    step false false false false g = absurd (true≢false (sym (single_word (y ∷ r)) ∙ g))

single-mark : (t : Token) → single_value (mark_token t) ≡ single_value t
single-mark begin_object = refl
single-mark end_object = refl
single-mark begin_array = refl
single-mark end_array = refl
single-mark (Token.key s) = refl
single-mark (Token.string s) = refl
single-mark (Token.number s) = refl
single-mark (boolean b) = refl
single-mark null = refl
single-mark bad = refl

begins-mark : (ls : List Lexeme) → begins_value (relabel ls) ≡ begins_value ls
begins-mark [] = refl
begins-mark (token t ∷ ls) = single-mark t
begins-mark (comma ∷ ls) = refl
begins-mark (colon ∷ ls) = refl

-- ---- strings and numbers

closed_spaced : (t more : List ℕ) → inside false t ≡ Some false → Spaced (lex between (34 ∷ 115 ∷ (t ++ 34 ∷ more))) → Spaced (lex between more)
unfolding lex
closed_spaced t more h s = subst Spaced (passes_text false t more h) s.2

open_back : (t : List ℕ) → IsSome (inside false t) → Spaced (lex between (34 ∷ 115 ∷ t)) → ⊥
unfolding lex content
open_back t h s = false≢true (sym (ap (λ o. sane (string_token (prepend (115 ∷ []) o))) (open_content plain t h)) ∙ s.0)

string_back : (b rest : List ℕ) (ps : List Piece) → IsText b rest → IsCut rest ps → Back rest ps → Back (34 ∷ (b ++ rest)) (string b ∷ ps)
string_back b rest ps (inr h) c ih s = absurd (open_back b h.0 (subst (λ l. Spaced (lex between (34 ∷ 115 ∷ l))) (ap (λ r. b ++ r) (no_pieces rest ps c h.1) ∙ append-nil b) s))
string_back b rest ps (inl h) c ih s =
    let whole : (r : List ℕ) → b ++ r ≡ h.0 ++ 34 ∷ r = λ r. ap (λ l. l ++ r) h.1 ∙ append_assoc h.0 (34 ∷ []) r in
    let l = ih (closed_spaced h.0 (marked_of ps) h.2 (subst (λ l. Spaced (lex between (34 ∷ 115 ∷ l))) (whole (marked_of ps)) s)) in
    ap (λ l. lex between (34 ∷ 115 ∷ l)) (whole (marked_of ps)) ∙ closed_lex h.0 rest (marked_of ps) h.2 l ∙ ap (λ l. relabel (lex between (34 ∷ l))) (sym (whole rest))

number_back : (t rest : List ℕ) (ps : List Piece) → IsPiece (number t) rest → after_number t ≡ Some [] → Back rest ps → Back (t ++ rest) (number t ∷ ps)
number_back [] rest ps h sound ih s = absurd (false≢true h.0)
number_back (x ∷ u) rest ps h sound ih s =
    let parts = greedy (x ∷ u) rest h.1 in
    let text : lex between (34 ∷ 110 ∷ (((x ∷ u) ++ 34 ∷ []) ++ marked_of ps)) ≡ token (Token.string (110 ∷ x ∷ u)) ∷ lex between (marked_of ps) =
    ap (λ l. lex between (34 ∷ 110 ∷ l)) (append_assoc (x ∷ u) (34 ∷ []) (marked_of ps)) ∙ number_text (x ∷ u) (marked_of ps) parts.0 in
    let behind : Spaced (token (Token.string (110 ∷ x ∷ u)) ∷ lex between (marked_of ps)) = subst Spaced text s in
    let l = ih behind.2 in
    let end = ends_before rest (sym (begins-mark (lex between rest)) ∙ sym (ap begins_value l) ∙ behind.1 refl) in
    text ∙ ap (λ k. token (Token.string (110 ∷ x ∷ u)) ∷ k) l ∙ ap relabel (sym (number_there x u rest parts.0 end (number_read (x ∷ u) rest parts.1 sound end)))

-- ---- literals

-- the pieces and the bytes behind these letters
record Taken (w m rest : List ℕ) : Type 0 where
  pieces : List Piece
  left : List ℕ
  line : rest ≡ w ++ left
  cut : IsCut left pieces
  sound : Sound pieces
  text : marked_of pieces ≡ m

taken : (w m rest : List ℕ) (ps : List Piece) → are_single w ≡ true → IsCut rest ps → Sound ps → marked_of ps ≡ w ++ m → Taken w m rest
taken [] m rest ps q c s e = record { pieces = ps; left = rest; line = refl; cut = c; sound = s; text = e }
taken (b ∷ w) m rest [] q c s e = cc
taken (b ∷ w) m rest (string a ∷ ps) q c s e = absurd (no_quote b w q (sym (ap head e)))
taken (b ∷ w) m rest (number t ∷ ps) q c s e = absurd (no_quote b w q (sym (ap head e)))
taken (b ∷ w) m rest (single y ∷ ps) q c s e =
    let t = taken w m c.0 ps (others_single b w q) c.3 s.1 (ap (drop 1) e) in
    record { pieces = t.pieces; left = t.left; line = c.1 ∙ ap₂ (λ a l. a ∷ l) (ap head e) t.line; cut = t.cut; sound = t.sound; text = t.text }

ends_back : (r : List ℕ) (qs : List Piece) → IsCut r qs → ends_word (marked_of qs) ≡ true → ends_word r ≡ true
ends_back r [] c h = ap ends_word c
ends_back r (string a ∷ qs) c h = absurd (false≢true h)
ends_back r (number t ∷ qs) c h = absurd (false≢true h)
ends_back r (single y ∷ qs) c h = ap ends_word c.1 ∙ h

operator_spaced : (x : ℕ) (ls : List Lexeme) → Spaced (operator_lexeme x ∷ ls) → Spaced ls
operator_spaced x ls s = step (x == 123) (x == 125) (x == 91) (x == 93) (x == 44) s
  where
    at : Bool → Bool → Bool → Bool → Bool → Lexeme
    at a b c d e = cond a (token begin_object) (cond b (token end_object) (cond c (token begin_array) (cond d (token end_array) (cond e comma colon))))

    step : (a b c d e : Bool) → Spaced (at a b c d e ∷ ls) → Spaced ls
    step true b c d e g = g.2
    step false true c d e g = g.2
    step false false true d e g = g.2
    step false false false true e g = g.2
    step false false false false true g = g
    step false false false false false g = g

module _ (rest : List ℕ) (ps : List Piece) (c : IsCut rest ps) (s : Sound ps) (ih : (r : List ℕ) (qs : List Piece) → length r ≤ length rest → IsCut r qs → Sound qs → Back r qs) where
  at_literal : (x : ℕ) (w m : List ℕ) (t : Token) → are_single w ≡ true → mark_token t ≡ t → ((r : List ℕ) → ends_word r ≡ true → lex between (x ∷ (w ++ r)) ≡ token t ∷ lex between r)
      → marked_of ps ≡ w ++ m → ends_word m ≡ true → Back (x ∷ rest) (single x ∷ ps)
  at_literal x w m t q same there e end g =
      let p = taken w m rest ps q c s e in
      let text : lex between (x ∷ marked_of ps) ≡ token t ∷ lex between m = ap (λ l. lex between (x ∷ l)) e ∙ there m end in
      let behind : Spaced (token t ∷ lex between m) = subst Spaced text g in
      let l = ih p.left p.pieces (omega (arith, ap length p.line, length-append w p.left)) p.cut p.sound (subst (λ k. Spaced (lex between k)) (sym p.text) behind.2) in
      let end_of_line = ends_back p.left p.pieces p.cut (ap ends_word p.text ∙ end) in
      text ∙ ap₂ (λ a k. token a ∷ k) (sym same) (ap (lex between) (sym p.text) ∙ l) ∙ ap relabel (sym (ap (λ k. lex between (x ∷ k)) p.line ∙ there p.left end_of_line))

  by_literal : (x : ℕ) → IsLiteral x (marked_of ps) → Back (x ∷ rest) (single x ∷ ps)
  by_literal x (inl l) = subst (λ y. Back (y ∷ rest) (single y ∷ ps)) (sym l.first) (at_literal 116 rest_of_true l.behind (boolean true) refl refl lex_true l.rest l.end)
  by_literal x (inr (inl l)) = subst (λ y. Back (y ∷ rest) (single y ∷ ps)) (sym l.first) (at_literal 102 rest_of_false l.behind (boolean false) refl refl lex_false l.rest l.end)
  by_literal x (inr (inr l)) = subst (λ y. Back (y ∷ rest) (single y ∷ ps)) (sym l.first) (at_literal 110 rest_of_null l.behind null refl refl lex_null l.rest l.end)

  by_word : (x : ℕ) → begins_number x ≡ false → lex between (x ∷ marked_of ps) ≡ token (word (x ∷ marked_of ps)) ∷ lex in_word (marked_of ps) → Back (x ∷ rest) (single x ∷ ps)
  by_word x n l g =
      let found : Spaced (token (word (x ∷ marked_of ps)) ∷ lex in_word (marked_of ps)) = subst Spaced l g in
      by_literal x (word_is_literal x (marked_of ps) n found.0) g

  single_back : (x : ℕ) → (x ≡ 34 → ⊥) → begins_number x ≡ false → Back (x ∷ rest) (single x ∷ ps)
  single_back x apart n g = step (x == 34) (x == 92) (is_operator x) (is_space x) (λ e. apart (eqb-true x 34 e)) refl
    where
      step : (q s o p : Bool) → (q ≡ true → ⊥) → class x ≡ cond q quote (cond s backslash (cond o operator (cond p space other))) → Lexed (x ∷ rest) (single x ∷ ps)
      step true b o p f k = absurd (f refl)
      step false true o p f k = let found : Spaced (token bad ∷ lex in_word (marked_of ps)) = subst Spaced (lexed x backslash (marked_of ps) k) g in absurd (false≢true found.0)
      step false false true p f k =
          let l = ih rest ps (omega arith) c s (operator_spaced x (lex between (marked_of ps)) (subst Spaced (lexed x operator (marked_of ps) k) g)) in
          lexed x operator (marked_of ps) k ∙ ap₂ (λ a k. a ∷ k) (sym (operator-mark x)) l ∙ ap relabel (sym (lexed x operator rest k))
      step false false false true f k =
          lexed x space (marked_of ps) k ∙ ih rest ps (omega arith) c s (subst Spaced (lexed x space (marked_of ps) k) g) ∙ ap relabel (sym (lexed x space rest k))
      step false false false false f k = by_word x n (lexed x other (marked_of ps) k) g

piece_back : (p : Piece) (rest : List ℕ) (ps : List Piece) → IsPiece p rest → IsCut rest ps → Sound (p ∷ ps) → ((r : List ℕ) (qs : List Piece) → length r ≤ length rest → IsCut r qs → Sound qs → Back r qs) → Back (spelling p ++ rest) (p ∷ ps)
piece_back (string b) rest ps h c s ih = string_back b rest ps h c (ih rest ps (omega arith) c s.1)
piece_back (number t) rest ps h c s ih = number_back t rest ps h s.0 (ih rest ps (omega arith) c s.1)
piece_back (single x) rest ps h c s ih = single_back rest ps c s.1 ih x h.0 h.1

-- the lexemes of the marked text
pub lexed_back : (n : ℕ) (bytes : List ℕ) (ps : List Piece) → length bytes ≤ n → IsCut bytes ps → AllByRecursion IsSound ps → Spaced (lex between (marked_of ps)) → lex between (marked_of ps) ≡ relabel (lex between bytes)
unfolding lex
lexed_back n bytes [] le c s g = ap (λ l. relabel (lex between l)) (sym c)
lexed_back zero bytes (p ∷ ps) le c s g = absurd (omega (arith, shorter p c.0 c.2, ap length c.1))
lexed_back (suc n) bytes (p ∷ ps) le c s g =
    subst (λ l. Back l (p ∷ ps)) (sym c.1) (piece_back p c.0 ps c.2 c.3 s (λ r qs l k t. lexed_back n r qs (omega (arith, shorter p c.0 c.2, ap length c.1)) k t)) g
