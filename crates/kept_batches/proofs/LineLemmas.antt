-- The lines at the front of a text, one after another.
use Rattle.std.proofs.Common.{◌≡◌, ◌↔◌, inl, inr, ℕ, suc, ◌+◌, List, [], ◌∷◌, ◌++◌, take, drop, Option, None, Some, refl, sym, ◌∙◌, ap, arith, append_assoc}
use Rattle.std.specs.Prelude.{IfSome}
use Rattle.std.proofs.lemmas.List.{append-nil, reverse-append}
use Rattle.memchr.specs.Find.{IsFirstByte, is_byte}
use Rattle.sha2.specs.Sha256.{sha256}
use Rattle.kept_batches.specs.Text.{lines_in, marked}
use Rattle.kept_batches.specs.Inner.Lines.{BeginsLine, BeginsNoLine}
use Rattle.kept_batches.specs.Heads.{head, head_back, heads_from}
use Rattle.kept_batches.proofs.FileLemmas.{peel}
use Rattle.kept_batches.proofs.Parsing.{line_before, line_split, lines_in-line, closed, unended_line}
use Rattle.std.proofs.lemmas.Bool.{cases_eq}

-- a line after an open mark
pub begins_line : (after : List ℕ) (found : Option ℕ) → IsFirstByte (is_byte 10) after found → IfSome found (BeginsLine (43 ∷ after))
begins_line after None first = tt
begins_line after (Some i) first = record {
  within = omega (arith, first.0.high);
  line = line_before after i first;
  split =
      ap (λ (l : List ℕ). 43 ∷ l) (line_split after i first)
      ∙ ap (λ (l : List ℕ). 43 ∷ take i after ++ 10 ∷ l) (sym (let more : i + 2 ≡ suc (i + 1) = omega arith in ap (λ (n : ℕ). drop n (43 ∷ after)) more));
}

pub first_line : (text : List ℕ) (count : ℕ) → BeginsLine text count → lines_in text ≡ take count (drop 1 text) ∷ lines_in (drop (count + 2) text)
first_line text count b = ap lines_in b.split ∙ lines_in-line (take count (drop 1 text)) (drop (count + 2) text) b.line

pub no_line : (text : List ℕ) → BeginsNoLine text → lines_in text ≡ []
no_line [] none = refl
no_line (byte ∷ text) none = elim (cases_eq byte 43) [
  | inl is ↦ ap (λ (b : ℕ). lines_in (b ∷ text)) is ∙ unended_line text (none is)
  | inr not ↦ closed byte text not
]

pub head-push : (lines : List (List ℕ)) (line : List ℕ) → head (lines ++ line ∷ []) ≡ sha256 (head lines ++ line)
head-push lines line = ap (λ (l : List (List ℕ)). head_back l) (reverse-append lines (line ∷ []))

pub head-after : (before batch : List (List ℕ)) → heads_from (head before) batch ≡ head (before ++ batch)
head-after before [] = ap head (sym (append-nil before))
head-after before (line ∷ batch) =
    ap (λ (h : List ℕ). heads_from h batch) (sym (head-push before line))
    ∙ head-after (before ++ line ∷ []) batch
    ∙ ap head (append_assoc before (line ∷ []) batch)

-- a line and whole lines after it are whole lines
pub lines_with : (text : List ℕ) (count : ℕ) → BeginsLine text count → (drop (count + 2) text ≡ marked (lines_in (drop (count + 2) text))) ↔ (text ≡ marked (lines_in text))
lines_with text count b = (
  λ e. b.split ∙ ap (λ (l : List ℕ). 43 ∷ take count (drop 1 text) ++ 10 ∷ l) e ∙ sym all,
  λ e. (peel (43 ∷ take count (drop 1 text) ++ 10 ∷ []) (43 ∷ take count (drop 1 text) ++ 10 ∷ []) _ _ refl (ap (λ (l : List ℕ). 43 ∷ l) (append_assoc line (10 ∷ []) (drop (count + 2) text)) ∙ sym b.split ∙ e ∙ all ∙ sym (ap (λ (l : List ℕ). 43 ∷ l) (append_assoc line (10 ∷ []) (marked (lines_in (drop (count + 2) text))))))).back,
)
  where
    line : List ℕ
    line = take count (drop 1 text)

    all : marked (lines_in text) ≡ 43 ∷ take count (drop 1 text) ++ 10 ∷ marked (lines_in (drop (count + 2) text))
    all = ap marked (first_line text count b)

pub lines_none : (text : List ℕ) → BeginsNoLine text → (text ≡ []) ↔ (text ≡ marked (lines_in text))
lines_none text none = (λ e. e ∙ sym (ap marked (no_line text none)), λ e. e ∙ ap marked (no_line text none))
