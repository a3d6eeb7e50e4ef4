-- Commas and colons among marked lexemes: where no fault is, marking changes no place.
use Rattle.std.proofs.Common.{◌≡◌, ℕ, List, [], ◌∷◌, map, Bool, true, false, refl, sym, ap, ◌∙◌}
use Rattle.std.proofs.lemmas.Bool.{false≢true, true≢false}
use Rattle.json.specs.Token.{Token, begin_object, end_object, begin_array, end_array, key, string, number, boolean, null, bad}
use Rattle.json.specs.Lex.{Lexeme, token, comma, colon, Place, fresh, after_value, after_comma, after_key, begins_colon, may_begin, may_close, if_allowed, place_token, punctuate}
use Rattle.marked_lines.specs.Inner.Marks.{mark_token}
use Rattle.marked_lines.proofs.Grammar.{marks}
use Rattle.marked_lines.proofs.Clean.{clean}

abbrev pub mark_lexeme : Lexeme → Lexeme
mark_lexeme (token t) = token (mark_token t)
mark_lexeme comma = comma
mark_lexeme colon = colon

pub colon-mark : (ls : List Lexeme) → begins_colon (map mark_lexeme ls) ≡ begins_colon ls
colon-mark [] = refl
colon-mark (token t ∷ ls) = refl
colon-mark (comma ∷ ls) = refl
colon-mark (colon ∷ ls) = refl

abbrev is_bad : Token → Bool
is_bad t = clean (t ∷ [])

module _ (k l : Place → List Token) (same : (n : Place) → clean (k n) ≡ true → l n ≡ marks (k n)) where
  allowed-mark : (a : Bool) (t : Token) (n : Place) → (clean (t ∷ k n) ≡ true → clean (k n) ≡ true) → clean (if_allowed a t k n) ≡ true → if_allowed a (mark_token t) l n ≡ marks (if_allowed a t k n)
  allowed-mark true t n f h = ap (λ ts. mark_token t ∷ ts) (same n (f h))
  allowed-mark false t n f h = absurd (false≢true h)

  counted : (a : Bool) (s : List ℕ) (n : Place) → clean (k n) ≡ false → clean (if_allowed a (number s) k n) ≡ true → ⊥
  counted true s n e h = true≢false (sym h ∙ e)
  counted false s n e h = false≢true h

  place-mark : (p : Place) (t : Token) (b : Bool) → (b ≡ true → clean (k after_value) ≡ false) → clean (place_token p t b k) ≡ true → place_token p (mark_token t) b l ≡ marks (place_token p t b k)
  place-mark p begin_object b f h = allowed-mark (may_begin p) begin_object fresh (λ g. g) h
  place-mark p end_object b f h = allowed-mark (may_close p) end_object after_value (λ g. g) h
  place-mark p begin_array b f h = allowed-mark (may_begin p) begin_array fresh (λ g. g) h
  place-mark p end_array b f h = allowed-mark (may_close p) end_array after_value (λ g. g) h
  place-mark p (key s) b f h = refl
  place-mark p (string s) true f h = allowed-mark (may_begin p) (key s) after_key (λ g. g) h
  place-mark p (string s) false f h = allowed-mark (may_begin p) (string s) after_value (λ g. g) h
  place-mark p (number s) true f h = absurd (counted (may_begin p) s after_value (f refl) h)
  place-mark p (number s) false f h = allowed-mark (may_begin p) (number s) after_value (λ g. g) h
  place-mark p (boolean c) b f h = allowed-mark (may_begin p) (boolean c) after_value (λ g. g) h
  place-mark p null b f h = allowed-mark (may_begin p) null after_value (λ g. g) h
  place-mark p bad b f h = refl

stray_colon : (ls : List Lexeme) → begins_colon ls ≡ true → clean (punctuate after_value ls) ≡ false
unfolding punctuate
stray_colon [] h = absurd (false≢true h)
stray_colon (token t ∷ ls) h = absurd (false≢true h)
stray_colon (comma ∷ ls) h = absurd (false≢true h)
stray_colon (colon ∷ ls) h = refl

pub punctuate-mark : (p : Place) (ls : List Lexeme) → clean (punctuate p ls) ≡ true → punctuate p (map mark_lexeme ls) ≡ marks (punctuate p ls)
unfolding punctuate
punctuate-mark fresh [] h = refl
punctuate-mark after_value [] h = refl
punctuate-mark after_comma [] h = refl
punctuate-mark after_key [] h = refl
punctuate-mark fresh (token t ∷ ls) h = ap (λ b. place_token fresh (mark_token t) b (λ n. punctuate n (map mark_lexeme ls))) (colon-mark ls) ∙ place-mark (λ n. punctuate n ls) (λ n. punctuate n (map mark_lexeme ls)) (λ n g. punctuate-mark n ls g) fresh t (begins_colon ls) (stray_colon ls) h
punctuate-mark after_value (token t ∷ ls) h = ap (λ b. place_token after_value (mark_token t) b (λ n. punctuate n (map mark_lexeme ls))) (colon-mark ls) ∙ place-mark (λ n. punctuate n ls) (λ n. punctuate n (map mark_lexeme ls)) (λ n g. punctuate-mark n ls g) after_value t (begins_colon ls) (stray_colon ls) h
punctuate-mark after_comma (token t ∷ ls) h = ap (λ b. place_token after_comma (mark_token t) b (λ n. punctuate n (map mark_lexeme ls))) (colon-mark ls) ∙ place-mark (λ n. punctuate n ls) (λ n. punctuate n (map mark_lexeme ls)) (λ n g. punctuate-mark n ls g) after_comma t (begins_colon ls) (stray_colon ls) h
punctuate-mark after_key (token t ∷ ls) h = ap (λ b. place_token after_key (mark_token t) b (λ n. punctuate n (map mark_lexeme ls))) (colon-mark ls) ∙ place-mark (λ n. punctuate n ls) (λ n. punctuate n (map mark_lexeme ls)) (λ n g. punctuate-mark n ls g) after_key t (begins_colon ls) (stray_colon ls) h
punctuate-mark fresh (comma ∷ ls) h = refl
punctuate-mark after_value (comma ∷ ls) h = punctuate-mark after_comma ls h
punctuate-mark after_comma (comma ∷ ls) h = refl
punctuate-mark after_key (comma ∷ ls) h = refl
punctuate-mark fresh (colon ∷ ls) h = refl
punctuate-mark after_value (colon ∷ ls) h = refl
punctuate-mark after_comma (colon ∷ ls) h = refl
punctuate-mark after_key (colon ∷ ls) h = punctuate-mark fresh ls h
