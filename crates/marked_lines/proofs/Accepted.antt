-- What a line is read as, with its marks, its marked text is read as.
use Rattle.std.proofs.Common.{◌≡◌, ℕ, List, [], ◌∷◌, length, Bool, true, false, cond, Option, Some, None, option_and_then, refl, ap, subst, ◌∙◌, arith}
use Rattle.std.proofs.lemmas.Str.{IsUtf8-from_is_utf8, is_utf8-from_IsUtf8}
use Rattle.std.specs.Str.{is_utf8}
use Rattle.json.specs.Token.{Token}
use Rattle.json.specs.Lex.{fresh, between, lex, punctuate, tokens}
use Rattle.json.specs.Json as json
use Rattle.serde_json.specs.Data as serde
use Rattle.serde_json.specs.Read.{read, of_json}
use Rattle.ocpi_json.specs.Reading.{value_of, data_of}
use Rattle.marked_lines.specs.Cut.{IsCut}
use Rattle.marked_lines.specs.Inner.MarkedText.{pieces, marked_text}
use Rattle.marked_lines.specs.Inner.Marks.{mark_json}
use Rattle.marked_lines.specs.MarkedReading.{marked_value, last_keys_marked, if_so, keys_marked_if_some, marked_reading, LinesAreReadByLastKeys}
use Rattle.marked_lines.proofs.Cutting.{cut_is, all_sound}
use Rattle.marked_lines.proofs.Clean.{clean, Left, value-left}
use Rattle.marked_lines.proofs.Good.{clean-good}
use Rattle.marked_lines.proofs.Grammar.{marks, both, value-mark}
use Rattle.marked_lines.proofs.Places.{punctuate-mark}
use Rattle.marked_lines.proofs.Relexing.{relexed}
use Rattle.marked_lines.proofs.Lexing.{marked_of}
use Rattle.marked_lines.proofs.Utf8.{marks_utf8}
use Rattle.marked_lines.proofs.Values.{of_marked, keys_of_marked}
use Rattle.marked_lines.proofs.LastKeys.{value_keys}

pub value_found : (o : Option (json.Json × List Token)) (j : json.Json) → option_and_then (λ p. json.if_last p.0 p.1) o ≡ Some j → o ≡ Some (j, [])
value_found None j h = cc
value_found (Some (i, [])) j h = cc
value_found (Some (i, t ∷ ts)) j h = cc

utf8_found : (bytes : List ℕ) (j : json.Json) → data_of bytes ≡ Some j → (is_utf8 bytes ≡ true) × (value_of bytes ≡ Some j)
unfolding data_of
utf8_found bytes j h = step (is_utf8 bytes) refl h
  where
    step : (b : Bool) → is_utf8 bytes ≡ b → option_and_then value_of (cond b (Some bytes) None) ≡ Some j → (is_utf8 bytes ≡ true) × (value_of bytes ≡ Some j)
    step true e g = (e, g)
    step false e g = cc

-- the marked text of the line is UTF-8, and its value is the line's, marked
record Accepted (bytes : List ℕ) (j : json.Json) : Type 0 where
  text : List ℕ
  there : marked_text bytes ≡ Some text
  utf8 : is_utf8 text ≡ true
  value : value_of text ≡ Some (mark_json j)

accepted : (bytes : List ℕ) (j : json.Json) → data_of bytes ≡ Some j → Accepted bytes j
unfolding marked_text
accepted bytes j h =
    let u = utf8_found bytes j h in
    let v : json.value 127 (tokens bytes) ≡ Some (j, []) = value_found (json.value 127 (tokens bytes)) j u.1 in
    let c : clean (tokens bytes) ≡ true = subst (Left (tokens bytes)) v (value-left 127 (tokens bytes)) in
    let cut : IsCut bytes (pieces bytes) = cut_is (length bytes) bytes (omega arith) in
    let r = relexed (length bytes) bytes (pieces bytes) (omega arith) cut (clean-good fresh (lex between bytes) c) in
    let text : List ℕ = marked_of (pieces bytes) in
    let ts : tokens text ≡ marks (tokens bytes) = ap (punctuate fresh) r.1 ∙ punctuate-mark fresh (lex between bytes) c in
    let found : value_of text ≡ Some (mark_json j) =
    ap (λ t. option_and_then (λ p. json.if_last p.0 p.1) (json.value 127 t)) ts ∙ ap (option_and_then (λ p. json.if_last p.0 p.1)) (value-mark 127 (tokens bytes) ∙ ap (both mark_json) v) in
    record {
      text = text;
      there = ap (λ b. cond b (Some text) None) (all_sound (pieces bytes) r.0);
      utf8 = is_utf8-from_IsUtf8 text (marks_utf8 [] bytes (pieces bytes) cut (IsUtf8-from_is_utf8 bytes u.0));
      value = found;
    }

abbrev pub then_keyed : List ℕ → Option serde.Data
then_keyed text = option_and_then (λ t. read t) (if_so (λ t. keys_marked_if_some (value_of t)) text)

abbrev then_last : List ℕ → Option serde.Data
then_last text = option_and_then (λ d. if_so last_keys_marked d) (read text)

pub read_marked : (bytes : List ℕ) (j : json.Json) → data_of bytes ≡ Some j → marked_reading bytes ≡ Some (marked_value j)
read_marked bytes j h =
    let a = accepted bytes j h in
    ap (option_and_then (λ m. option_and_then then_keyed (if_so is_utf8 m))) a.there
    ∙ ap (λ b. option_and_then then_keyed (cond b (Some a.text) None)) a.utf8
    ∙ ap (λ v. option_and_then (λ t. read t) (cond (keys_marked_if_some v) (Some a.text) None)) a.value
    ∙ ap (λ b. option_and_then (λ t. read t) (cond b (Some a.text) None)) (keys_of_marked j)
    ∙ ap (option_and_then of_json) a.value
    ∙ of_marked j

pub read_by_last_keys : LinesAreReadByLastKeys
read_by_last_keys bytes j h =
    let a = accepted bytes j h in
    ap (option_and_then (λ m. option_and_then then_last (if_so is_utf8 m))) a.there
    ∙ ap (λ b. option_and_then then_last (cond b (Some a.text) None)) a.utf8
    ∙ ap (λ v. option_and_then (λ d. if_so last_keys_marked d) (option_and_then of_json v)) a.value
    ∙ ap (option_and_then (λ d. if_so last_keys_marked d)) (of_marked j)
    ∙ ap (λ b. cond b (Some (marked_value j)) None) (value_keys j)
