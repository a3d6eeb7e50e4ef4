-- The record of a store, from its parts.
use Rattle.std.proofs.Common.{◌≡◌, ◌≢◌, ◌==◌, ◌<◌, ℕ, List, [], ◌∷◌, ◌++◌, ◌∙◌, Bool, true, false, not, if◌then◌else◌, Some, get_or, take, refl, sym, ap, append_assoc, arith, true≢false, eq-eqb}
use Rattle.std.specs.Prelude.{IfSome, Option, None, codes, slice_index_or}
use Rattle.std.specs.List.{list_all}
use Rattle.std.proofs.lemmas.Bool.{and_parts}
use Rattle.std.proofs.lemmas.List.{get_or-take, length-take}
use Rattle.std.proofs.lemmas.List.Elements.{All-append, All-cons, All-from_get_or, All-map, All-nil}
use Rattle.memchr.specs.Find.{IsFirstByte, is_byte}
use Rattle.kept_batches.specs.Text.{IsLine}
use Rattle.kept_house.specs.Record.{HasNoQuote, byte_in_line, first_record, on_one_line}

-- one part more, before what follows
part_more : (x y z w : List ℕ) → x ≡ y ++ z → x ++ w ≡ y ++ (z ++ w)
part_more x y z w is = ap (λ (l : List ℕ). l ++ w) is ∙ append_assoc y z w

-- parts that are put one after another
pub put_together : (one two three four five six seven start program stream words middle config end : List ℕ)
    → one ≡ start → two ≡ one ++ program → three ≡ two ++ stream → four ≡ three ++ words → five ≡ four ++ middle → six ≡ five ++ config → seven ≡ six ++ end
    → seven ≡ start ++ (program ++ (stream ++ (words ++ (middle ++ (config ++ end)))))
put_together one two three four five six seven start program stream words middle config end a b c d e f g =
    g
    ∙ part_more six five config end f
    ∙ part_more five four middle (config ++ end) e
    ∙ part_more four three words (middle ++ (config ++ end)) d
    ∙ part_more three two stream (words ++ (middle ++ (config ++ end))) c
    ∙ part_more two one program (stream ++ (words ++ (middle ++ (config ++ end)))) b
    ∙ ap (λ (l : List ℕ). l ++ (program ++ (stream ++ (words ++ (middle ++ (config ++ end)))))) a

-- what is so of the value of an option
pub if_some_then : {T : Type 0} {P Q : T → Type 0} (found : Option T) → IfSome found P → ((x : T) → P x → Q x) → IfSome found Q
if_some_then None holds next = tt
if_some_then (Some x) holds next = next x holds

-- what comes before the first quotation mark has none
pub quote_before : (text : List ℕ) (i : ℕ) → IsFirstByte (is_byte 34) text (Some i) → HasNoQuote (take i text)
quote_before text i first =
    All-from_get_or (λ (byte : ℕ). byte ≢ 34) (take i text) 0 (λ k below is.
    let low : k < i = omega (arith, below, length-take i text) in
    first.0.before k (omega arith) low (eq-eqb (get_or text k 0) 34 (sym (get_or-take i text k 0 low) ∙ is)))

-- ---- the record has no newline

not_newline : (byte : ℕ) → byte_in_line byte ≡ 10 → ⊥
not_newline byte is = by (byte == 10) refl is
  where
    by : (b : Bool) → (byte == 10) ≡ b → (if b then 32 else byte) ≡ 10 → ⊥
    by true e h = omega (arith, h)
    by false e h = true≢false (sym (ap (λ (n : ℕ). n == 10) h) ∙ e)

pub without_newline : (text : List ℕ) → list_all (λ (byte : ℕ). not (byte == 10)) text ≡ true → IsLine text
without_newline [] e = All-nil (λ (byte : ℕ). byte ≢ 10)
without_newline (byte ∷ text) e =
    let parts = and_parts (not (byte == 10)) (list_all (λ (byte : ℕ). not (byte == 10)) text) e in
    All-cons (λ (byte : ℕ). byte ≢ 10) byte text (λ h. true≢false (sym parts.0 ∙ ap (λ (n : ℕ). not (n == 10)) h)) (without_newline text parts.1)

pub record_is_line : (program config : List ℕ) → IsLine program → IsLine (first_record program config)
record_is_line program config line =
    let end : List ℕ = on_one_line config ++ codes "}" in
    let middle : List ℕ = codes "\",\"stream\":[\"configure\",\"request_id\"],\"config\":" in
    All-append (λ (byte : ℕ). byte ≢ 10) (codes "{\"format\":1,\"program\":\"") (program ++ (middle ++ end)) (without_newline (codes "{\"format\":1,\"program\":\"") refl)
    (All-append (λ (byte : ℕ). byte ≢ 10) program (middle ++ end) line
    (All-append (λ (byte : ℕ). byte ≢ 10) middle end (without_newline middle refl)
    (All-append (λ (byte : ℕ). byte ≢ 10) (on_one_line config) (codes "}") (All-map (λ (byte : ℕ). byte ≢ 10) byte_in_line config (λ k d lt. not_newline (slice_index_or config k d))) (without_newline (codes "}") refl))))
