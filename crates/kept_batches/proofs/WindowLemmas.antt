-- A window on a text tells whether the text begins with a batch.
use Rattle.std.proofs.Common.{◌≡◌, ◌⊎◌, inl, inr, ℕ, ◌+◌, ◌≤◌, true, false, List, ◌++◌, length, take, drop, refl, sym, ◌∙◌, ap, arith, append_assoc, take-append-drop}
use Rattle.std.proofs.lemmas.List.{take_at, take-take}
use Rattle.kept_batches.specs.File.{most_bytes, record_of}
use Rattle.kept_batches.specs.Verdict.{candidate, begins, after, WindowsSuffice}
use Rattle.kept_batches.proofs.FileLemmas.{length-record_of}
use Rattle.kept_batches.proofs.VerdictLemmas.{begins-record_of, candidate-record_of, yes_or_no, begun}

in_window : (before : List (List ℕ)) (text : List ℕ) (most : ℕ) → 75 + most_bytes ≤ most → begins before text ≡ true → (begins before (take most text) ≡ true) × (candidate (take most text) ≡ candidate text)
in_window before text most enough e =
    let b = begun before text e in
    let whole = record_of before (candidate text) in
    let n = length whole in
    let front : take n (take most text) ≡ whole =
    take-take n most text (omega (arith, enough, b.good.fits, length-record_of before (candidate text)))
    ∙ ap (λ (l : List ℕ). take n l) b.is_split ∙ take_at whole (after before text) n refl in
    let split : take most text ≡ whole ++ drop n (take most text) = sym (take-append-drop n (take most text)) ∙ ap (λ (l : List ℕ). l ++ drop n (take most text)) front in (
      ap (λ (l : List ℕ). begins before l) split ∙ begins-record_of before (candidate text) (drop n (take most text)) b.good,
      ap candidate split ∙ candidate-record_of before (candidate text) (drop n (take most text)) b.good,
    )

from_window : (before : List (List ℕ)) (text : List ℕ) (most : ℕ) → begins before (take most text) ≡ true → begins before text ≡ true
from_window before text most e =
    let b = begun before (take most text) e in
    let whole = record_of before (candidate (take most text)) in
    let split : text ≡ whole ++ (after before (take most text) ++ drop most text) =
    sym (take-append-drop most text) ∙ ap (λ (l : List ℕ). l ++ drop most text) b.is_split ∙ append_assoc whole (after before (take most text)) (drop most text) in
    ap (λ (l : List ℕ). begins before l) split ∙ begins-record_of before (candidate (take most text)) (after before (take most text) ++ drop most text) b.good

pub windows_suffice : WindowsSuffice
windows_suffice before text most enough =
    (pick (yes_or_no (begins before text)) (yes_or_no (begins before (take most text))), λ e. (in_window before text most enough e).1)
  where
    pick : (begins before text ≡ true) ⊎ (begins before text ≡ false) → (begins before (take most text) ≡ true) ⊎ (begins before (take most text) ≡ false) → begins before (take most text) ≡ begins before text
    pick (inl e) other = (in_window before text most enough e).0 ∙ sym e
    pick (inr e) (inl f) = absurd (cc (sym (from_window before text most f) ∙ e))
    pick (inr e) (inr f) = f ∙ sym e
