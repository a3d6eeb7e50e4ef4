-- Where the tokens have no fault, no lexeme is bad, and no value or key comes right behind another.
use Rattle.std.proofs.Common.{◌≡◌, List, [], ◌∷◌, Bool, true, false, refl, sym, ◌∙◌}
use Rattle.std.proofs.lemmas.Bool.{false≢true, true≢false, and_parts}
use Rattle.json.specs.Token.{Token, begin_object, end_object, begin_array, end_array, key, string, number, boolean, null, bad}
use Rattle.json.specs.Lex.{Lexeme, token, comma, colon, Place, fresh, after_value, after_comma, after_key, begins_colon, may_begin, may_close, if_allowed, place_token, punctuate}
use Rattle.marked_lines.specs.MarkedReading.{is_marked_key}
use Rattle.marked_lines.proofs.Clean.{clean}
use Rattle.marked_lines.proofs.Good.{sane}
use Rattle.marked_lines.proofs.Backward.{keyed}

-- a value of one token, or a fault
abbrev pub single_value : Token → Bool
single_value begin_object = false
single_value end_object = false
single_value begin_array = false
single_value end_array = false
single_value (key s) = true
single_value (string s) = true
single_value (number s) = true
single_value (boolean b) = true
single_value null = true
single_value bad = true

abbrev pub begins_value : List Lexeme → Bool
begins_value [] = false
begins_value (token t ∷ ls) = single_value t
begins_value (comma ∷ ls) = false
begins_value (colon ∷ ls) = false

closed_place : (p : Place) (t : Token) (b : Bool) (k : Place → List Token) → may_begin p ≡ false → single_value t ≡ true → clean (place_token p t b k) ≡ false
closed_place fresh t b k e s = absurd (true≢false e)
closed_place after_comma t b k e s = absurd (true≢false e)
closed_place after_value begin_object b k e s = absurd (false≢true s)
closed_place after_value end_object b k e s = absurd (false≢true s)
closed_place after_value begin_array b k e s = absurd (false≢true s)
closed_place after_value end_array b k e s = absurd (false≢true s)
closed_place after_value (key c) b k e s = refl
closed_place after_value (string c) true k e s = refl
closed_place after_value (string c) false k e s = refl
closed_place after_value (number c) b k e s = refl
closed_place after_value (boolean c) b k e s = refl
closed_place after_value null b k e s = refl
closed_place after_value bad b k e s = refl
closed_place after_key begin_object b k e s = absurd (false≢true s)
closed_place after_key end_object b k e s = absurd (false≢true s)
closed_place after_key begin_array b k e s = absurd (false≢true s)
closed_place after_key end_array b k e s = absurd (false≢true s)
closed_place after_key (key c) b k e s = refl
closed_place after_key (string c) true k e s = refl
closed_place after_key (string c) false k e s = refl
closed_place after_key (number c) b k e s = refl
closed_place after_key (boolean c) b k e s = refl
closed_place after_key null b k e s = refl
closed_place after_key bad b k e s = refl

-- behind a value or a key no value begins
pub no_value_behind : (ls : List Lexeme) → (clean (punctuate after_value ls) ≡ true → begins_value ls ≡ false) × (clean (punctuate after_key ls) ≡ true → begins_value ls ≡ false)
unfolding punctuate
no_value_behind [] = (λ h. refl, λ h. refl)
no_value_behind (comma ∷ ls) = (λ h. refl, λ h. refl)
no_value_behind (colon ∷ ls) = (λ h. refl, λ h. refl)
no_value_behind (token t ∷ ls) = (step after_value refl (single_value t) refl, step after_key refl (single_value t) refl)
  where
    step : (p : Place) → may_begin p ≡ false → (s : Bool) → single_value t ≡ s → clean (place_token p t (begins_colon ls) (λ n. punctuate n ls)) ≡ true → s ≡ false
    step p e true s h = absurd (false≢true (sym (closed_place p t (begins_colon ls) (λ n. punctuate n ls) e s) ∙ h))
    step p e false s h = refl

pub keyed-clean : (ts : List Token) → keyed ts ≡ true → clean ts ≡ true
keyed-clean [] h = refl
keyed-clean (begin_object ∷ ts) h = keyed-clean ts h
keyed-clean (end_object ∷ ts) h = keyed-clean ts h
keyed-clean (begin_array ∷ ts) h = keyed-clean ts h
keyed-clean (end_array ∷ ts) h = keyed-clean ts h
keyed-clean (key s ∷ ts) h = keyed-clean ts (and_parts (is_marked_key s) (keyed ts) h).1
keyed-clean (string s ∷ ts) h = keyed-clean ts h
keyed-clean (number s ∷ ts) h = keyed-clean ts h
keyed-clean (boolean b ∷ ts) h = keyed-clean ts h
keyed-clean (null ∷ ts) h = keyed-clean ts h
keyed-clean (bad ∷ ts) h = h

-- no lexeme is bad, and no value or key comes right behind another
abbrev pub Spaced : List Lexeme → Type 0
Spaced [] = Unit {0}
Spaced (token t ∷ ls) = (sane t ≡ true) × (single_value t ≡ true → begins_value ls ≡ false) × Spaced ls
Spaced (comma ∷ ls) = Spaced ls
Spaced (colon ∷ ls) = Spaced ls

module _ (k : Place → List Token) (ls : List Lexeme) (same : (n : Place) → clean (k n) ≡ true → Spaced ls) (value_behind : clean (k after_value) ≡ true → begins_value ls ≡ false) (key_behind : clean (k after_key) ≡ true → begins_value ls ≡ false) where
  allowed : (a : Bool) (t : Token) (n : Place) → (clean (t ∷ k n) ≡ true → clean (k n) ≡ true) → clean (if_allowed a t k n) ≡ true → clean (k n) ≡ true
  allowed true t n f h = f h
  allowed false t n f h = absurd (false≢true h)

  bracket : (t : Token) (n : Place) → sane t ≡ true → single_value t ≡ false → clean (k n) ≡ true → Spaced (token t ∷ ls)
  bracket t n s v h = (s, λ e. absurd (true≢false (sym e ∙ v)), same n h)

  value : (t : Token) → sane t ≡ true → clean (k after_value) ≡ true → Spaced (token t ∷ ls)
  value t s h = (s, λ e. value_behind h, same after_value h)

  place-spaced : (p : Place) (t : Token) (b : Bool) → clean (place_token p t b k) ≡ true → Spaced (token t ∷ ls)
  place-spaced p begin_object b h = bracket begin_object fresh refl refl (allowed (may_begin p) begin_object fresh (λ g. g) h)
  place-spaced p end_object b h = bracket end_object after_value refl refl (allowed (may_close p) end_object after_value (λ g. g) h)
  place-spaced p begin_array b h = bracket begin_array fresh refl refl (allowed (may_begin p) begin_array fresh (λ g. g) h)
  place-spaced p end_array b h = bracket end_array after_value refl refl (allowed (may_close p) end_array after_value (λ g. g) h)
  place-spaced p (key s) b h = absurd (false≢true h)
  place-spaced p (string s) true h = let g = allowed (may_begin p) (key s) after_key (λ g. g) h in (refl, λ e. key_behind g, same after_key g)
  place-spaced p (string s) false h = value (string s) refl (allowed (may_begin p) (string s) after_value (λ g. g) h)
  place-spaced p (number s) b h = value (number s) refl (allowed (may_begin p) (number s) after_value (λ g. g) h)
  place-spaced p (boolean c) b h = value (boolean c) refl (allowed (may_begin p) (boolean c) after_value (λ g. g) h)
  place-spaced p null b h = value null refl (allowed (may_begin p) null after_value (λ g. g) h)
  place-spaced p bad b h = absurd (false≢true h)

pub clean-spaced : (p : Place) (ls : List Lexeme) → clean (punctuate p ls) ≡ true → Spaced ls
unfolding punctuate
clean-spaced p [] h = tt
clean-spaced fresh (token t ∷ ls) h = place-spaced (λ n. punctuate n ls) ls (λ n g. clean-spaced n ls g) (no_value_behind ls).0 (no_value_behind ls).1 fresh t (begins_colon ls) h
clean-spaced after_value (token t ∷ ls) h = place-spaced (λ n. punctuate n ls) ls (λ n g. clean-spaced n ls g) (no_value_behind ls).0 (no_value_behind ls).1 after_value t (begins_colon ls) h
clean-spaced after_comma (token t ∷ ls) h = place-spaced (λ n. punctuate n ls) ls (λ n g. clean-spaced n ls g) (no_value_behind ls).0 (no_value_behind ls).1 after_comma t (begins_colon ls) h
clean-spaced after_key (token t ∷ ls) h = place-spaced (λ n. punctuate n ls) ls (λ n g. clean-spaced n ls g) (no_value_behind ls).0 (no_value_behind ls).1 after_key t (begins_colon ls) h
clean-spaced fresh (comma ∷ ls) h = absurd (false≢true h)
clean-spaced after_value (comma ∷ ls) h = clean-spaced after_comma ls h
clean-spaced after_comma (comma ∷ ls) h = absurd (false≢true h)
clean-spaced after_key (comma ∷ ls) h = absurd (false≢true h)
clean-spaced fresh (colon ∷ ls) h = absurd (false≢true h)
clean-spaced after_value (colon ∷ ls) h = absurd (false≢true h)
clean-spaced after_comma (colon ∷ ls) h = absurd (false≢true h)
clean-spaced after_key (colon ∷ ls) h = clean-spaced fresh ls h
