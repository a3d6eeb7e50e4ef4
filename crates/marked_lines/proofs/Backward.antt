-- From the marked text back to the line: commas and colons, and UTF-8.
use Rattle.std.proofs.Common.{◌≡◌, ℕ, List, [], ◌∷◌, ◌++◌, map, Bool, true, false, ◌&&◌, refl, sym, ap, subst, ◌∙◌, arith, append_assoc, IsUtf8, inl, inr}
use Rattle.std.proofs.lemmas.Bool.{false≢true}
use Rattle.std.proofs.lemmas.Str.{IsUtf8-append}
use Rattle.json.specs.Token.{Token, begin_object, end_object, begin_array, end_array, key, string, number, boolean, null, bad}
use Rattle.json.specs.Lex.{Lexeme, token, comma, colon, Place, fresh, after_value, after_comma, after_key, begins_colon, may_begin, may_close, if_allowed, place_token, punctuate}
use Rattle.marked_lines.specs.Inner.Marks.{mark_token}
use Rattle.marked_lines.specs.MarkedReading.{is_marked_key}
use Rattle.marked_lines.specs.Cut.{Piece, IsText, IsPiece, IsCut}
use Rattle.marked_lines.specs.Cut as cut
use Rattle.marked_lines.proofs.Grammar.{marks}
use Rattle.marked_lines.proofs.Places.{mark_lexeme, colon-mark}
use Rattle.marked_lines.proofs.Tokens.{greedy}
use Rattle.marked_lines.proofs.Lexing.{marked_of}
use Rattle.marked_lines.proofs.Utf8.{apart_at, joined_at}

-- no bad token, and each key begins with `s`
abbrev pub keyed : List Token → Bool
keyed [] = true
keyed (begin_object ∷ ts) = keyed ts
keyed (end_object ∷ ts) = keyed ts
keyed (begin_array ∷ ts) = keyed ts
keyed (end_array ∷ ts) = keyed ts
keyed (key s ∷ ts) = is_marked_key s && keyed ts
keyed (string s ∷ ts) = keyed ts
keyed (number s ∷ ts) = keyed ts
keyed (boolean b ∷ ts) = keyed ts
keyed (null ∷ ts) = keyed ts
keyed (bad ∷ ts) = false

module _ (k l : Place → List Token) (same : (n : Place) → keyed (l n) ≡ true → l n ≡ marks (k n)) where
  allowed-back : (a : Bool) (t : Token) (n : Place) → (keyed (mark_token t ∷ l n) ≡ true → keyed (l n) ≡ true) → keyed (if_allowed a (mark_token t) l n) ≡ true → if_allowed a (mark_token t) l n ≡ marks (if_allowed a t k n)
  allowed-back true t n f h = ap (λ ts. mark_token t ∷ ts) (same n (f h))
  allowed-back false t n f h = absurd (false≢true h)

  counted : (a : Bool) (s : List ℕ) → keyed (if_allowed a (key (110 ∷ s)) l after_key) ≡ true → ⊥
  counted true s h = false≢true h
  counted false s h = false≢true h

  place-back : (p : Place) (t : Token) (b : Bool) → keyed (place_token p (mark_token t) b l) ≡ true → place_token p (mark_token t) b l ≡ marks (place_token p t b k)
  place-back p begin_object b h = allowed-back (may_begin p) begin_object fresh (λ g. g) h
  place-back p end_object b h = allowed-back (may_close p) end_object after_value (λ g. g) h
  place-back p begin_array b h = allowed-back (may_begin p) begin_array fresh (λ g. g) h
  place-back p end_array b h = allowed-back (may_close p) end_array after_value (λ g. g) h
  place-back p (key s) b h = refl
  place-back p (string s) true h = allowed-back (may_begin p) (key s) after_key (λ g. g) h
  place-back p (string s) false h = allowed-back (may_begin p) (string s) after_value (λ g. g) h
  place-back p (number s) true h = absurd (counted (may_begin p) s h)
  place-back p (number s) false h = allowed-back (may_begin p) (number s) after_value (λ g. g) h
  place-back p (boolean c) b h = allowed-back (may_begin p) (boolean c) after_value (λ g. g) h
  place-back p null b h = allowed-back (may_begin p) null after_value (λ g. g) h
  place-back p bad b h = refl

abbrev relabel : List Lexeme → List Lexeme
relabel ls = map mark_lexeme ls

module _ (p : Place) (t : Token) (ls : List Lexeme) (same : (n : Place) → keyed (punctuate n (relabel ls)) ≡ true → punctuate n (relabel ls) ≡ marks (punctuate n ls)) where
  token-back : keyed (place_token p (mark_token t) (begins_colon (relabel ls)) (λ n. punctuate n (relabel ls))) ≡ true
      → place_token p (mark_token t) (begins_colon (relabel ls)) (λ n. punctuate n (relabel ls)) ≡ marks (place_token p t (begins_colon ls) (λ n. punctuate n ls))
  token-back h =
      let e = ap (λ b. place_token p (mark_token t) b (λ n. punctuate n (relabel ls))) (colon-mark ls) in
      e ∙ place-back (λ n. punctuate n ls) (λ n. punctuate n (relabel ls)) same p t (begins_colon ls) (sym (ap keyed e) ∙ h)

-- where the marked tokens have no fault and no number for a key, they are the line's, marked
pub punctuate-back : (p : Place) (ls : List Lexeme) → keyed (punctuate p (relabel ls)) ≡ true → punctuate p (relabel ls) ≡ marks (punctuate p ls)
unfolding punctuate
punctuate-back fresh [] h = refl
punctuate-back after_value [] h = refl
punctuate-back after_comma [] h = refl
punctuate-back after_key [] h = refl
punctuate-back fresh (token t ∷ ls) h = token-back fresh t ls (λ n g. punctuate-back n ls g) h
punctuate-back after_value (token t ∷ ls) h = token-back after_value t ls (λ n g. punctuate-back n ls g) h
punctuate-back after_comma (token t ∷ ls) h = token-back after_comma t ls (λ n g. punctuate-back n ls g) h
punctuate-back after_key (token t ∷ ls) h = token-back after_key t ls (λ n g. punctuate-back n ls g) h
punctuate-back fresh (comma ∷ ls) h = refl
punctuate-back after_value (comma ∷ ls) h = punctuate-back after_comma ls h
punctuate-back after_comma (comma ∷ ls) h = refl
punctuate-back after_key (comma ∷ ls) h = refl
punctuate-back fresh (colon ∷ ls) h = refl
punctuate-back after_value (colon ∷ ls) h = refl
punctuate-back after_comma (colon ∷ ls) h = refl
punctuate-back after_key (colon ∷ ls) h = punctuate-back fresh ls h

-- ---- UTF-8

string_back : (f b rest : List ℕ) (ps : List Piece) → IsText b rest → (IsUtf8 (marked_of ps) → IsUtf8 rest) → (rest ≡ [] → marked_of ps ≡ []) → IsUtf8 (f ++ 34 ∷ 115 ∷ (b ++ marked_of ps)) → IsUtf8 (f ++ 34 ∷ (b ++ rest))
string_back f b rest ps (inl h) ih end u =
    let whole : (r : List ℕ) → b ++ r ≡ h.0 ++ 34 ∷ r = λ r. ap (λ l. l ++ r) h.1 ∙ append_assoc h.0 (34 ∷ []) r in
    let a = apart_at f (115 ∷ (b ++ marked_of ps)) 34 (omega arith) u in
    let i = apart_at [] (b ++ marked_of ps) 115 (omega arith) a.1 in
    let c = apart_at h.0 (marked_of ps) 34 (omega arith) (subst IsUtf8 (whole (marked_of ps)) i.1) in
    joined_at f (b ++ rest) 34 (omega arith) a.0 (subst IsUtf8 (sym (whole rest)) (joined_at h.0 rest 34 (omega arith) c.0 (ih c.1)))
string_back f b rest ps (inr h) ih end u =
    let a = apart_at f (115 ∷ (b ++ marked_of ps)) 34 (omega arith) u in
    let i = apart_at [] (b ++ marked_of ps) 115 (omega arith) a.1 in
    joined_at f (b ++ rest) 34 (omega arith) a.0 (subst IsUtf8 (ap (λ r. b ++ r) (end h.1 ∙ sym h.1)) i.1)

number_back : (f t rest : List ℕ) (ps : List Piece) → IsPiece (cut.number t) rest → (IsUtf8 (marked_of ps) → IsUtf8 rest) → IsUtf8 (f ++ 34 ∷ 110 ∷ ((t ++ 34 ∷ []) ++ marked_of ps)) → IsUtf8 (f ++ (t ++ rest))
number_back f t rest ps h ih u =
    let nums = (greedy t rest h.1).0 in
    let a = apart_at f _ 34 (omega arith) u in
    let i = apart_at [] _ 110 (omega arith) a.1 in
    let c = apart_at t (marked_of ps) 34 (omega arith) (subst IsUtf8 (append_assoc t (34 ∷ []) (marked_of ps)) i.1) in
    IsUtf8-append f (t ++ rest) a.0 (IsUtf8-append t rest c.0 (ih c.1))

-- no pieces, where the line is at its end
pub no_pieces : (rest : List ℕ) (ps : List Piece) → IsCut rest ps → rest ≡ [] → marked_of ps ≡ []
no_pieces rest [] c e = refl
no_pieces rest (cut.string b ∷ ps) c e = let w : cut.spelling (cut.string b) ++ c.0 ≡ [] = sym c.1 ∙ e in cc
no_pieces rest (cut.number [] ∷ ps) c e = absurd (false≢true c.2.0)
no_pieces rest (cut.number (x ∷ t) ∷ ps) c e = let w : cut.spelling (cut.number (x ∷ t)) ++ c.0 ≡ [] = sym c.1 ∙ e in cc
no_pieces rest (cut.single x ∷ ps) c e = let w : cut.spelling (cut.single x) ++ c.0 ≡ [] = sym c.1 ∙ e in cc

-- the line is UTF-8 if its marked text is
pub utf8_back : (f bytes : List ℕ) (ps : List Piece) → IsCut bytes ps → IsUtf8 (f ++ marked_of ps) → IsUtf8 (f ++ bytes)
utf8_back f bytes [] c u = subst (λ l. IsUtf8 (f ++ l)) (sym c) u
utf8_back f bytes (cut.string b ∷ ps) c u = subst (λ l. IsUtf8 (f ++ l)) (sym c.1) (string_back f b c.0 ps c.2 (λ v. utf8_back [] c.0 ps c.3 v) (no_pieces c.0 ps c.3) u)
utf8_back f bytes (cut.number t ∷ ps) c u = subst (λ l. IsUtf8 (f ++ l)) (sym c.1) (number_back f t c.0 ps c.2 (λ v. utf8_back [] c.0 ps c.3 v) u)
utf8_back f bytes (cut.single x ∷ ps) c u =
    subst (λ l. IsUtf8 (f ++ l)) (sym c.1) (subst IsUtf8 (append_assoc f (x ∷ []) c.0) (utf8_back (f ++ x ∷ []) c.0 ps c.3 (subst IsUtf8 (sym (append_assoc f (x ∷ []) (marked_of ps))) u)))
