-- A ghost field has its fact truncated. What it says of a file holds without that.
use Rattle.std.proofs.Common.{◌≡◌, ◌⊎◌, inl, inr, ℕ, zero, suc, ◌+◌, ◌<◌, ◌≤◌, ◌^◌, Bool, true, false, if◌then◌else◌, List, [], ◌∷◌, ◌++◌, Option, None, Some, Err, length, take, drop, sym, ◌∙◌, ap, subst, arith, length-append}
use Rattle.std.specs.Prelude.{IsErrOf}
use Rattle.std.proofs.lemmas.List.Elements.{All-head, All-tail}
use Rattle.std.specs.List.{All}
use mathlib.Core.HLevel.{Π_prop}
use mathlib.Core.Logic.{∥∥₁_elim}
use Rattle.std.proofs.Props.{props}
use Rattle.kept_batches.specs.Text.{IsLine, marked}
use Rattle.kept_batches.specs.Heads.{head}
use Rattle.kept_batches.specs.File.{shut_mark, most_bytes, record_of, records, all_lines, file_of, IsBatch}
use Rattle.kept_batches.specs.Verdict.{begins, candidate, after, readable, verdict, damage_in}
use Rattle.kept_batches.specs.declared.end.End.{End}
use Rattle.kept_batches.specs.declared.end.End.TheVariants.{Whole, Torn, Unmarked, Unbegun}
use Rattle.kept_batches.specs.Log.{IsLog}
use Rattle.kept_batches.specs.declared.error.KeepError.TheVariants.{Damaged}
use Rattle.kept_batches.specs.Inner.Finding.{IsDamage}
use Rattle.kept_batches.specs.Inner.State.{IsState, MarkFits}
use Rattle.kept_batches.proofs.FileLemmas.{length-record_of, frame_split}
use Rattle.kept_batches.proofs.VerdictLemmas.{yes_or_no, begun, begins-record_of, candidate-record_of, after-record_of}
use Rattle.kept_batches.proofs.States.{line_left, none_left, not_damaged, damage_state, spent_state}

-- the batches with which a text begins
batches_in : ℕ → List (List ℕ) → List ℕ → List (List (List ℕ))
batches_in zero before text = []
batches_in (suc more) before text = if begins before (drop 4 text) then candidate (drop 4 text) ∷ batches_in more (before ++ candidate (drop 4 text)) (after before (drop 4 text)) else []

begins_nothing : (before : List (List ℕ)) → begins before [] ≡ false
begins_nothing before = pick (yes_or_no (begins before []))
  where
    pick : (begins before [] ≡ true) ⊎ (begins before [] ≡ false) → begins before [] ≡ false
    pick (inl e) =
        let b = begun before [] e in
        absurd (omega (arith, ap length b.is_split, length-append (record_of before (candidate [])) (after before []), length-record_of before (candidate [])))
    pick (inr e) = e

batches-records : (batches : List (List (List ℕ))) (fuel : ℕ) (before : List (List ℕ)) → All IsBatch batches → length (records before batches ++ shut_mark) ≤ fuel → batches_in fuel before (records before batches ++ shut_mark) ≡ batches
unfolding batches_in
batches-records [] zero before are few = absurd (omega (arith, few))
batches-records [] (suc fuel) before are few =
    ap (λ (b : Bool). if b then candidate [] ∷ batches_in fuel (before ++ candidate []) (after before []) else []) (begins_nothing before)
batches-records (batch ∷ batches) zero before are few =
    absurd (omega (arith, few, length-append (records before (batch ∷ batches)) shut_mark))
batches-records (batch ∷ batches) (suc fuel) before are few =
    let tail = records (before ++ batch) batches ++ shut_mark in
    let text = record_of before batch ++ tail in
    let good = All-head IsBatch batch batches are in
    let split = frame_split before batch batches shut_mark in
    ap (λ (l : List ℕ). batches_in (suc fuel) before l) split
    ∙ ap (λ (b : Bool). if b then candidate text ∷ batches_in fuel (before ++ candidate text) (after before text) else []) (begins-record_of before batch tail good)
    ∙ ap (λ (c : List (List ℕ)). c ∷ batches_in fuel (before ++ c) (after before text)) (candidate-record_of before batch tail good)
    ∙ ap (λ (l : List ℕ). batch ∷ batches_in fuel (before ++ batch) l) (after-record_of before batch tail good)
    ∙ ap (λ (l : List (List (List ℕ))). batch ∷ l)
    (batches-records batches fuel (before ++ batch) (All-tail IsBatch batch batches are)
    (omega (arith, few, ap length split, length-append (record_of before batch) tail, length-record_of before batch)))

IsBatch-prop : (batch : List (List ℕ)) → IsProp (IsBatch batch)
IsBatch-prop batch x y =
    let are_prop : IsProp (All IsLine batch) = hlevel props in
    let fits_prop : IsProp (length (marked batch) ≤ most_bytes) = hlevel props in
    λ i. record { are = are_prop x.are y.are i; fits = fits_prop x.fits y.fits i }

pub log_of : (file : List ℕ) (end : ℕ) (last : List ℕ) → ∥ IsLog file end last ∥₁ → IsLog file end last
log_of file end last h = record {
  batches = batches_in (length file) [] file;
  are =
      let are_prop : IsProp (All IsBatch (batches_in (length file) [] file)) = Π_prop (λ k. Π_prop (λ d. Π_prop (λ _. IsBatch-prop _))) in
      ∥∥₁_elim h are_prop (λ l. subst (All IsBatch) (sym (same l)) l.are);
  file_is = let is_prop : IsProp (file ≡ file_of (batches_in (length file) [] file)) = hlevel props in ∥∥₁_elim h is_prop (λ l. l.file_is ∙ ap file_of (sym (same l)));
  end_is =
      let is_prop : IsProp (end ≡ length (records [] (batches_in (length file) [] file))) = hlevel props in
      ∥∥₁_elim h is_prop (λ l. l.end_is ∙ ap (λ (b : List (List (List ℕ))). length (records [] b)) (sym (same l)));
  head_is =
      let is_prop : IsProp (last ≡ head (all_lines (batches_in (length file) [] file))) = hlevel props in
      ∥∥₁_elim h is_prop (λ l. l.head_is ∙ ap (λ (b : List (List (List ℕ))). head (all_lines b)) (sym (same l)));
}
  where
    same : (l : IsLog file end last) → batches_in (length file) [] file ≡ l.batches
    same l = ap (λ (f : List ℕ). batches_in (length f) [] f) l.file_is ∙ batches-records l.batches (length (file_of l.batches)) [] l.are (omega arith)

pub mark_of : (e : End) (place : ℕ) → ∥ MarkFits e place ∥₁ → MarkFits e place
mark_of Whole place h = tt
mark_of Torn place h = let fits_prop : IsProp (place + 4 < 2 ^ 64) = hlevel props in ∥∥₁_elim h fits_prop (λ x. x)
mark_of (Unmarked mark is_shut) place h = let fits_prop : IsProp (mark + 2 < 2 ^ 64) = hlevel props in ∥∥₁_elim h fits_prop (λ x. x)
mark_of Unbegun place h = tt

pub line_left_of : (e : Option End) (file : List ℕ) (place : ℕ) (last : List ℕ) (count : ℕ) (line : List ℕ) (lines : List (List ℕ)) → ∥ IsState e file place last count (line ∷ lines) ∥₁
    → drop count (readable (verdict file)) ≡ line ∷ drop (count + 1) (readable (verdict file))
line_left_of e file place last count line lines h =
    let is_prop : IsProp (drop count (readable (verdict file)) ≡ line ∷ drop (count + 1) (readable (verdict file))) = hlevel props in
    ∥∥₁_elim h is_prop (line_left e file place last count line lines)

pub none_left_of : (e : End) (file : List ℕ) (place : ℕ) (last : List ℕ) (count : ℕ) → ∥ IsState (Some e) file place last count [] ∥₁ → drop count (readable (verdict file)) ≡ []
none_left_of e file place last count h =
    let is_prop : IsProp (drop count (readable (verdict file)) ≡ []) = hlevel props in ∥∥₁_elim h is_prop (none_left e file place last count)

pub undamaged_of : (e : End) (file : List ℕ) (place : ℕ) (last : List ℕ) (count : ℕ) (pending : List (List ℕ)) → ∥ IsState (Some e) file place last count pending ∥₁ → damage_in file ≡ None
undamaged_of e file place last count pending h =
    let is_prop : IsProp (damage_in file ≡ None) = hlevel props in ∥∥₁_elim h is_prop (λ s. not_damaged e file place last s.lines s.at)

module _ (file : List ℕ) (place : ℕ) (last : List ℕ) (count : ℕ) (h : ∥ IsState None file place last count [] ∥₁) (text : List ℕ) (window : text ≡ take 16_777_300 (drop place file)) (long : place ≡ 0 → 4 < length text)
    (d : (before : List (List ℕ)) → last ≡ head before → IsDamage before text) where
  pub damage_of : damage_in file ≡ Some place
  damage_of =
      let is_prop : IsProp (damage_in file ≡ Some place) = hlevel props in ∥∥₁_elim h is_prop (λ s. damage_state file place last count s text window long d)

  pub spent_of : drop count (readable (verdict file)) ≡ []
  spent_of =
      let is_prop : IsProp (drop count (readable (verdict file)) ≡ []) = hlevel props in ∥∥₁_elim h is_prop (λ s. spent_state file place last count s text window long d)

-- the place of an error
pub same_place : {T : Type 0} (place at : ℕ) → IsErrOf {T = T} (Err (Damaged place)) (Damaged at) → place ≡ at
same_place place at is = cc (is)
