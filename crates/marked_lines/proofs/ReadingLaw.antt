-- What the marked text is read as, with every key in it marked, the line is read as: so the two readings are the same.
use Rattle.std.proofs.Common.{◌≡◌, ℕ, List, [], ◌∷◌, length, Bool, true, false, cond, Option, Some, None, option_map, option_and_then, refl, sym, ap, subst, ◌∙◌, arith}
use Rattle.std.proofs.lemmas.Bool.{false≢true}
use Rattle.std.proofs.lemmas.Str.{IsUtf8-from_is_utf8, is_utf8-from_IsUtf8}
use Rattle.std.specs.Str.{is_utf8}
use Rattle.std.specs.List.{AllByRecursion, list_all}
use Rattle.json.specs.Token.{Token}
use Rattle.json.specs.Lex.{fresh, between, lex, punctuate, tokens}
use Rattle.json.specs.Json as json
use Rattle.serde_json.specs.Read.{read}
use Rattle.ocpi_json.specs.Reading.{value_of, data_of}
use Rattle.marked_lines.specs.Cut.{Piece, IsCut, IsSound}
use Rattle.marked_lines.specs.Inner.MarkedText.{pieces, is_sound, marked_text}
use Rattle.marked_lines.specs.Inner.Marks.{mark_json}
use Rattle.marked_lines.specs.MarkedReading.{marked_value, all_keys_marked, if_so, keys_marked_if_some, marked_reading, LinesAreReadAsMarked}
use Rattle.marked_lines.proofs.Cutting.{cut_is, sound_all}
use Rattle.marked_lines.proofs.Backward.{keyed, punctuate-back, utf8_back}
use Rattle.marked_lines.proofs.Kept.{Kept, value-kept}
use Rattle.marked_lines.proofs.Apart.{keyed-clean, clean-spaced}
use Rattle.marked_lines.proofs.Grammar.{marks, both, value-mark}
use Rattle.marked_lines.proofs.Lexing.{marked_of, relabel}
use Rattle.marked_lines.proofs.LexingBack.{lexed_back}
use Rattle.marked_lines.proofs.Accepted.{value_found, then_keyed, read_marked}

-- the lexemes of the marked text are the line's, marked
lexemes_back : (bytes : List ℕ) (ps : List Piece) → IsCut bytes ps → AllByRecursion IsSound ps → keyed (tokens (marked_of ps)) ≡ true → lex between (marked_of ps) ≡ relabel (lex between bytes)
lexemes_back bytes ps c sound fine =
    lexed_back (length bytes) bytes ps (omega arith) c sound (clean-spaced fresh (lex between (marked_of ps)) (keyed-clean (tokens (marked_of ps)) fine))

abbrev none_left : Option (json.Json × List Token) → Bool
none_left None = true
none_left (Some (j, [])) = true
none_left (Some (j, t ∷ ts)) = false

unmarked_value : (o : Option (json.Json × List Token)) (k : json.Json) → both mark_json o ≡ Some (k, []) → (j : json.Json) × (option_and_then (λ p. json.if_last p.0 p.1) o ≡ Some j)
unmarked_value None k h = cc
unmarked_value (Some (j, [])) k h = (j, refl)
unmarked_value (Some (j, t ∷ ts)) k h = absurd (false≢true (ap none_left h))

-- a line whose marked text has a value with marked keys has a value
line_value : (bytes : List ℕ) (ps : List Piece) (k : json.Json) → IsCut bytes ps → AllByRecursion IsSound ps → is_utf8 (marked_of ps) ≡ true → value_of (marked_of ps) ≡ Some k → all_keys_marked k ≡ true
    → (j : json.Json) × (data_of bytes ≡ Some j)
unfolding data_of
line_value bytes ps k c sound u v keys =
    let whole = value_found (json.value 127 (tokens (marked_of ps))) k v in
    let fine : keyed (tokens (marked_of ps)) ≡ true = subst (Kept all_keys_marked (tokens (marked_of ps))) whole (value-kept 127 (tokens (marked_of ps))) keys refl in
    let l = lexemes_back bytes ps c sound fine in
    let ts : tokens (marked_of ps) ≡ marks (tokens bytes) = ap (punctuate fresh) l ∙ punctuate-back fresh (lex between bytes) (sym (ap (λ ls. keyed (punctuate fresh ls)) l) ∙ fine) in
    let j = unmarked_value (json.value 127 (tokens bytes)) k (sym (value-mark 127 (tokens bytes)) ∙ sym (ap (json.value 127) ts) ∙ whole) in
    let utf8 : is_utf8 bytes ≡ true = is_utf8-from_IsUtf8 bytes (utf8_back [] bytes ps c (IsUtf8-from_is_utf8 (marked_of ps) u)) in
    (j.0, ap (λ b. option_and_then value_of (cond b (Some bytes) None)) utf8 ∙ j.1)

-- where the line is nothing, its marked text is nothing
refused : (bytes : List ℕ) → data_of bytes ≡ None → marked_reading bytes ≡ None
unfolding marked_text
refused bytes none = by_sound (list_all is_sound (pieces bytes)) refl
  where
    text : List ℕ
    text = marked_of (pieces bytes)

    by_keys : list_all is_sound (pieces bytes) ≡ true → is_utf8 text ≡ true → (k : json.Json) (b : Bool) → value_of text ≡ Some k → all_keys_marked k ≡ b → option_and_then (λ t. read t) (cond b (Some text) None) ≡ None
    by_keys sound u k false v e = refl
    by_keys sound u k true v e =
        let j = line_value bytes (pieces bytes) k (cut_is (length bytes) bytes (omega arith)) (sound_all (pieces bytes) sound) u v e in let no : None ≡ Some j.0 = sym none ∙ j.1 in cc

    by_value : list_all is_sound (pieces bytes) ≡ true → is_utf8 text ≡ true → (o : Option json.Json) → value_of text ≡ o → option_and_then (λ t. read t) (cond (keys_marked_if_some o) (Some text) None) ≡ None
    by_value sound u None v = refl
    by_value sound u (Some k) v = by_keys sound u k (all_keys_marked k) v refl

    by_utf8 : list_all is_sound (pieces bytes) ≡ true → (b : Bool) → is_utf8 text ≡ b → option_and_then then_keyed (cond b (Some text) None) ≡ None
    by_utf8 sound false e = refl
    by_utf8 sound true e = by_value sound e (value_of text) refl

    by_sound : (b : Bool) → list_all is_sound (pieces bytes) ≡ b → option_and_then (λ m. option_and_then then_keyed (if_so is_utf8 m)) (cond b (Some text) None) ≡ None
    by_sound false e = refl
    by_sound true e = by_utf8 e (is_utf8 text) refl

pub reading_law : LinesAreReadAsMarked
reading_law bytes = by_line (data_of bytes) refl
  where
    by_line : (o : Option json.Json) → data_of bytes ≡ o → option_map marked_value (data_of bytes) ≡ marked_reading bytes
    by_line (Some j) e = ap (option_map marked_value) e ∙ sym (read_marked bytes j e)
    by_line None e = ap (option_map marked_value) e ∙ sym (refused bytes e)
