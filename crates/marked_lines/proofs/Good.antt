-- Where the tokens are clean, no lexeme is bad.
use Rattle.std.proofs.Common.{◌≡◌, List, [], ◌∷◌, Bool, true, false, ◌&&◌, refl}
use Rattle.std.proofs.lemmas.Bool.{false≢true}
use Rattle.json.specs.Token.{Token, begin_object, end_object, begin_array, end_array, key, string, number, boolean, null, bad}
use Rattle.json.specs.Lex.{Lexeme, token, comma, colon, Place, fresh, after_value, after_comma, after_key, begins_colon, may_begin, may_close, if_allowed, place_token, punctuate}
use Rattle.marked_lines.proofs.Clean.{clean}

abbrev pub sane : Token → Bool
sane begin_object = true
sane end_object = true
sane begin_array = true
sane end_array = true
sane (key s) = false
sane (string s) = true
sane (number s) = true
sane (boolean b) = true
sane null = true
sane bad = false

abbrev pub good : List Lexeme → Bool
good [] = true
good (token t ∷ ls) = sane t && good ls
good (comma ∷ ls) = good ls
good (colon ∷ ls) = good ls

module _ (k : Place → List Token) (ls : List Lexeme) (same : (n : Place) → clean (k n) ≡ true → good ls ≡ true) where
  allowed-good : (a : Bool) (t : Token) (n : Place) → (clean (t ∷ k n) ≡ true → clean (k n) ≡ true) → clean (if_allowed a t k n) ≡ true → good ls ≡ true
  allowed-good true t n f h = same n (f h)
  allowed-good false t n f h = absurd (false≢true h)

  place-good : (p : Place) (t : Token) (b : Bool) → clean (place_token p t b k) ≡ true → (sane t && good ls) ≡ true
  place-good p begin_object b h = allowed-good (may_begin p) begin_object fresh (λ g. g) h
  place-good p end_object b h = allowed-good (may_close p) end_object after_value (λ g. g) h
  place-good p begin_array b h = allowed-good (may_begin p) begin_array fresh (λ g. g) h
  place-good p end_array b h = allowed-good (may_close p) end_array after_value (λ g. g) h
  place-good p (key s) b h = absurd (false≢true h)
  place-good p (string s) true h = allowed-good (may_begin p) (key s) after_key (λ g. g) h
  place-good p (string s) false h = allowed-good (may_begin p) (string s) after_value (λ g. g) h
  place-good p (number s) b h = allowed-good (may_begin p) (number s) after_value (λ g. g) h
  place-good p (boolean c) b h = allowed-good (may_begin p) (boolean c) after_value (λ g. g) h
  place-good p null b h = allowed-good (may_begin p) null after_value (λ g. g) h
  place-good p bad b h = absurd (false≢true h)

pub clean-good : (p : Place) (ls : List Lexeme) → clean (punctuate p ls) ≡ true → good ls ≡ true
unfolding punctuate
clean-good p [] h = refl
clean-good fresh (token t ∷ ls) h = place-good (λ n. punctuate n ls) ls (λ n g. clean-good n ls g) fresh t (begins_colon ls) h
clean-good after_value (token t ∷ ls) h = place-good (λ n. punctuate n ls) ls (λ n g. clean-good n ls g) after_value t (begins_colon ls) h
clean-good after_comma (token t ∷ ls) h = place-good (λ n. punctuate n ls) ls (λ n g. clean-good n ls g) after_comma t (begins_colon ls) h
clean-good after_key (token t ∷ ls) h = place-good (λ n. punctuate n ls) ls (λ n g. clean-good n ls g) after_key t (begins_colon ls) h
clean-good fresh (comma ∷ ls) h = absurd (false≢true h)
clean-good after_value (comma ∷ ls) h = clean-good after_comma ls h
clean-good after_comma (comma ∷ ls) h = absurd (false≢true h)
clean-good after_key (comma ∷ ls) h = absurd (false≢true h)
clean-good fresh (colon ∷ ls) h = absurd (false≢true h)
clean-good after_value (colon ∷ ls) h = absurd (false≢true h)
clean-good after_comma (colon ∷ ls) h = absurd (false≢true h)
clean-good after_key (colon ∷ ls) h = clean-good fresh ls h
