-- The lines that a text keeps.
use Rattle.std.proofs.Common.{◌≡◌, ◌≢◌, inl, inr, ℕ, ◌+◌, ◌<◌, List, [], ◌∷◌, ◌++◌, get_or, take, drop, Option, None, Some, refl, sym, ◌∙◌, ap, subst, arith, append_assoc, take-append-drop, eq-eqb}
use Rattle.std.specs.Prelude.{not}
use Rattle.memchr.specs.Find.{IsFirstByte, is_byte}
use Rattle.std.proofs.lemmas.List.{append-nil, drop_more, get_or-take, length-take}
use Rattle.std.proofs.lemmas.List.Elements.{All-nil, All-cons, All-head, All-tail, All-push, All-from_get_or}
use Rattle.std.proofs.lemmas.Bool.{cases_eq, eqb-true}
use Rattle.std.proofs.lemmas.Bool.Decides.{nat_tests}
use Rattle.std.specs.List.{All}
use Rattle.kept_lines.specs.File.{IsLine, kept_from, kept_in, marked}

abbrev pub NoNewline : ℕ → Type 0
NoNewline byte = byte ≢ 10

begins : (byte : ℕ) (text : List ℕ) → byte ≡ 43 → kept_in (byte ∷ text) ≡ kept_from (Some []) text
begins byte text is = grind (arith, nat_tests)

pub closed : (byte : ℕ) (text : List ℕ) → byte ≢ 43 → kept_in (byte ∷ text) ≡ []
closed byte text shut = grind (arith, nat_tests)

ends : (line : List ℕ) (byte : ℕ) (text : List ℕ) → byte ≡ 10 → kept_from (Some line) (byte ∷ text) ≡ line ∷ kept_in text
ends line byte text is = grind (arith, nat_tests)

goes_on : (line : List ℕ) (byte : ℕ) (text : List ℕ) → byte ≢ 10 → kept_from (Some line) (byte ∷ text) ≡ kept_from (Some (line ++ byte ∷ [])) text
goes_on line byte text not = grind (arith, nat_tests)

pub ended : (begun line rest : List ℕ) → IsLine line → kept_from (Some begun) (line ++ 10 ∷ rest) ≡ (begun ++ line) ∷ kept_in rest
ended begun [] rest is = ap (λ (l : List ℕ). l ∷ kept_in rest) (sym (append-nil begun))
ended begun (byte ∷ line) rest is =
    goes_on begun byte (line ++ 10 ∷ rest) (All-head NoNewline byte line is)
    ∙ ended (begun ++ byte ∷ []) line rest (All-tail NoNewline byte line is)
    ∙ ap (λ (l : List ℕ). l ∷ kept_in rest) (append_assoc begun (byte ∷ []) line)

pub unended : (begun line : List ℕ) → IsLine line → kept_from (Some begun) line ≡ []
unended begun [] is = refl
unended begun (byte ∷ line) is =
    goes_on begun byte line (All-head NoNewline byte line is) ∙ unended (begun ++ byte ∷ []) line (All-tail NoNewline byte line is)

pub unended_line : (line : List ℕ) → IsLine line → kept_in (43 ∷ line) ≡ []
unended_line line is = unended [] line is

pub kept_in-line : (line rest : List ℕ) → IsLine line → kept_in (43 ∷ line ++ 10 ∷ rest) ≡ line ∷ kept_in rest
kept_in-line line rest is = ended [] line rest is

-- whole lines, and then those that the rest keeps
kept_in-marked : (lines : List (List ℕ)) (rest : List ℕ) → All IsLine lines → kept_in (marked lines ++ rest) ≡ lines ++ kept_in rest
kept_in-marked [] rest are = refl
kept_in-marked (line ∷ lines) rest are =
    ap (λ (t : List ℕ). kept_in (43 ∷ t)) (append_assoc line (10 ∷ marked lines) rest)
    ∙ kept_in-line line (marked lines ++ rest) (All-head IsLine line lines are)
    ∙ ap (λ (l : List (List ℕ)). line ∷ l) (kept_in-marked lines rest (All-tail IsLine line lines are))

pub kept_in_nothing : (lines : List (List ℕ)) (rest : List ℕ) → All IsLine lines → kept_in rest ≡ [] → kept_in (marked lines ++ rest) ≡ lines
kept_in_nothing lines rest are none = kept_in-marked lines rest are ∙ ap (λ (l : List (List ℕ)). lines ++ l) none ∙ append-nil lines

pub marked-append : (xs ys : List (List ℕ)) → marked (xs ++ ys) ≡ marked xs ++ marked ys
marked-append [] ys = refl
marked-append (x ∷ xs) ys =
    ap (λ (t : List ℕ). 43 ∷ x ++ 10 ∷ t) (marked-append xs ys) ∙ ap (λ (t : List ℕ). 43 ∷ t) (sym (append_assoc x (10 ∷ marked xs) (marked ys)))

-- a text is its lines, and an end that keeps none
pub record Parts (text : List ℕ) (lines : List (List ℕ)) : Type 0 where
  pub end : List ℕ
  pub split : text ≡ marked lines ++ end
  pub nothing : kept_in end ≡ []
  pub are : All IsLine lines

-- the text from the mark of the line that has begun
abbrev with_begun : Option (List ℕ) → List ℕ → List ℕ
with_begun None text = text
with_begun (Some line) text = 43 ∷ line ++ text

abbrev IsBegun : Option (List ℕ) → Type 0
IsBegun None = Unit {0}
IsBegun (Some line) = IsLine line

same_parts : (old new : List ℕ) (was now : List (List ℕ)) → new ≡ old → was ≡ now → Parts old was → Parts new now
same_parts old new was now texts lines p = record {
  end = p.end;
  split = texts ∙ p.split ∙ ap (λ (l : List (List ℕ)). marked l ++ p.end) lines;
  nothing = p.nothing;
  are = subst (λ (l : List (List ℕ)). All IsLine l) lines p.are;
}

no_lines : (text : List ℕ) → kept_in text ≡ [] → Parts text []
no_lines text none = record { end = text; split = refl; nothing = none; are = All-nil IsLine }

one_more : (line text : List ℕ) (lines : List (List ℕ)) → IsLine line → Parts text lines → Parts (43 ∷ line ++ 10 ∷ text) (line ∷ lines)
one_more line text lines is p = record {
  end = p.end;
  split = ap (λ (t : List ℕ). 43 ∷ line ++ 10 ∷ t) p.split ∙ ap (λ (t : List ℕ). 43 ∷ t) (sym (append_assoc line (10 ∷ marked lines) p.end));
  nothing = p.nothing;
  are = All-cons IsLine line lines is p.are;
}

parts_from : (state : Option (List ℕ)) (text : List ℕ) → IsBegun state → Parts (with_begun state text) (kept_from state text)
parts_from None [] begun = no_lines [] refl
parts_from (Some line) [] begun = no_lines (43 ∷ line ++ []) (ap (λ (t : List ℕ). kept_in (43 ∷ t)) (append-nil line) ∙ unended [] line begun)
parts_from None (byte ∷ text) begun = elim (cases_eq byte 43) [
  | inl is ↦ same_parts _ _ _ _ (ap (λ (b : ℕ). b ∷ text) is) (sym (begins byte text is)) (parts_from (Some []) text (All-nil NoNewline))
  | inr not ↦ same_parts _ _ _ _ refl (sym (closed byte text not)) (no_lines (byte ∷ text) (closed byte text not))
]
parts_from (Some line) (byte ∷ text) begun = elim (cases_eq byte 10) [
  | inl is ↦
      same_parts _ _ _ _ (ap (λ (b : ℕ). 43 ∷ line ++ b ∷ text) is) (sym (ends line byte text is)) (one_more line text (kept_in text) begun (parts_from None text tt))
  | inr not ↦
      same_parts _ _ _ _ (ap (λ (t : List ℕ). 43 ∷ t) (sym (append_assoc line (byte ∷ []) text))) (sym (goes_on line byte text not))
      (parts_from (Some (line ++ byte ∷ [])) text (All-push NoNewline line byte begun not))
]

pub parts : (text : List ℕ) → Parts text (kept_in text)
parts text = parts_from None text tt

-- the first newline ends a line
pub line_before : (text : List ℕ) (i : ℕ) → IsFirstByte (is_byte 10) text (Some i) → IsLine (take i text)
line_before text i first =
    All-from_get_or NoNewline (take i text) 0 (λ k below is.
    let low : k < i = omega (arith, below, length-take i text) in
    first.0.before k (omega arith) low (eq-eqb (get_or text k 0) 10 (sym (get_or-take i text k 0 low) ∙ is)))

pub line_split : (text : List ℕ) (i : ℕ) → IsFirstByte (is_byte 10) text (Some i) → text ≡ take i text ++ 10 ∷ drop (i + 1) text
line_split text i first =
    sym (take-append-drop i text)
    ∙ ap (λ (l : List ℕ). take i text ++ l) (drop_more text i 0 first.0.high)
    ∙ ap (λ (b : ℕ). take i text ++ b ∷ drop (i + 1) text) (eqb-true (get_or text i 0) 10 first.1)
