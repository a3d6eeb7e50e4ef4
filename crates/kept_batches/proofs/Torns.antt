-- A torn end, and no torn end.
use Rattle.std.proofs.Common.{◌≡◌, ◌≢◌, ◌⊎◌, inl, inr, ℕ, ◌+◌, Bool, true, false, List, [], ◌∷◌, ◌++◌, Some, length, take, drop, sym, ◌∙◌, ap, subst, arith, append_assoc, length-append}
use Rattle.std.specs.Prelude.{⊤}
use Rattle.std.proofs.lemmas.List.{take_at, drop-drop}
use Rattle.std.proofs.lemmas.List.Elements.{All-push}
use Rattle.std.specs.List.{All}
use mathlib.Core.Logic.{∥∥₁_elim, ∥∥₁_map}
use Rattle.kept_batches.specs.File.{open_mark, shut_mark, record_of, records, all_lines, file_of, IsBatch, IsTorn, IsUnbegun}
use Rattle.kept_batches.specs.Reading.{IsTornAt, IsNotTorn}
use Rattle.kept_batches.specs.declared.end.End.{End}
use Rattle.kept_batches.specs.declared.end.End.TheVariants.{Whole, Torn, Unmarked, Unbegun}
use Rattle.kept_batches.specs.Inner.Writes.{IsHalved}
use Rattle.kept_batches.specs.Inner.State.{IsState}
use Rattle.kept_batches.proofs.FileLemmas.{apart, one_frames, peel}
use Rattle.kept_batches.proofs.CrashLemmas.{file_of-append}
use Rattle.kept_batches.proofs.HeadLemmas.{Same, is, is_not, cases_same}
use Rattle.kept_batches.proofs.VerdictLemmas.{yes_or_no}

torn_file : (file : List ℕ) (batches : List (List (List ℕ))) (t : IsTorn batches file) → file ≡ records [] batches ++ (shut_mark ++ t.rest)
torn_file file batches t = t.is ∙ append_assoc (records [] batches) shut_mark t.rest

whole_not_torn : (file : List ℕ) (batches : List (List (List ℕ))) → All IsBatch batches → file ≡ file_of batches → IsNotTorn file
whole_not_torn file batches are whole others t =
    let one = one_frames [] batches others shut_mark (shut_mark ++ t.rest) are t.are apart apart (sym whole ∙ torn_file file others t) in
    absurd (omega (arith, t.some, ap length one.rest, length-append shut_mark t.rest))

unbegun_not_torn : (file : List ℕ) → IsUnbegun file → IsNotTorn file
unbegun_not_torn file u batches t = absurd (omega (arith, u.short, t.some, ap length t.is, length-append (file_of batches) t.rest, length-append (records [] batches) shut_mark))

halved_not_torn : (file : List ℕ) (mark : ℕ) (is_shut : Bool) (first : List (List (List ℕ))) (batch : List (List ℕ)) → IsHalved file mark is_shut first batch → IsNotTorn file
halved_not_torn file mark is_shut first batch h others t = pick (cases_same (h.first ++ h.second) open_mark) (yes_or_no is_shut)
  where
    rest : List ℕ
    rest = record_of (all_lines first) batch ++ shut_mark

    four : length (h.first ++ h.second) ≡ 4
    four = omega (arith, h.two, h.two_too, length-append h.first h.second)

    shut : (h.first ++ h.second) ≢ open_mark → (h.first ≡ 45 ∷ 45 ∷ []) × (h.second ≡ 45 ∷ 45 ∷ [])
    shut not_open =
        let one = one_frames [] first others ((h.first ++ h.second) ++ rest) (shut_mark ++ t.rest) h.are t.are (λ e. not_open (sym (take_at (h.first ++ h.second) rest 4 four) ∙ e)) apart (sym h.file_is ∙ torn_file file others t) in
        let marks : h.first ++ h.second ≡ shut_mark = sym (take_at (h.first ++ h.second) rest 4 four) ∙ ap (λ (l : List ℕ). take 4 l) one.rest in
        let halves = peel h.first (45 ∷ 45 ∷ []) h.second (45 ∷ 45 ∷ []) h.two marks in
        (halves.front, halves.back)

    pick : Same (h.first ++ h.second) open_mark → (is_shut ≡ true) ⊎ (is_shut ≡ false) → ⊥
    pick (is same _) _ =
        whole_not_torn file (first ++ batch ∷ []) (All-push IsBatch first batch h.are h.good)
        (h.file_is ∙ ap (λ (l : List ℕ). records [] first ++ (l ++ rest)) same ∙ sym (file_of-append first batch)) others t
    pick (is_not differ _) (inl e) = h.second_open e (shut differ).1
    pick (is_not differ _) (inr e) = h.first_open e (shut differ).0

-- another end than a torn one
abbrev pub IsOther : End → Type 0
IsOther Whole = ⊤
IsOther Torn = ⊥
IsOther (Unmarked mark is_shut) = ⊤
IsOther Unbegun = ⊤

pub is_other : (e : End) → (e ≡ Whole) ⊎ (((mark : ℕ) × (is_shut : Bool) × (e ≡ Unmarked mark is_shut)) ⊎ (e ≡ Unbegun)) → IsOther e
is_other e (inl same) = subst IsOther (sym same) tt
is_other e (inr (inl (mark, is_shut, same))) = subst IsOther (sym same) tt
is_other e (inr (inr same)) = subst IsOther (sym same) tt

other_end : (e : End) → IsOther e → (file : List ℕ) (place : ℕ) (last : List ℕ) (count : ℕ) → IsState (Some e) file place last count [] → IsNotTorn file
other_end Whole other file place last count s = whole_not_torn file s.at.batches s.at.are s.at.after
other_end Torn other file place last count s = absurd other
other_end (Unmarked mark is_shut) other file place last count s = halved_not_torn file mark is_shut s.at.after.first s.at.after.batch s.at.after.halved
other_end Unbegun other file place last count s = unbegun_not_torn file s.at.after.unbegun

pub not_torn : (e : End) → IsOther e → (file before : List ℕ) (place : ℕ) (last : List ℕ) (count : ℕ) → file ≡ before → ∥ IsState (Some e) file place last count [] ∥₁ → IsNotTorn before
not_torn e other file before place last count same h batches t =
    let is_prop : IsProp ⊥ = λ x y. absurd x in ∥∥₁_elim h is_prop (λ s. subst IsNotTorn same (other_end e other file place last count s) batches t)

pub torn_at : (file other items : List ℕ) (begin stop : ℕ) (last : List ℕ) (count : ℕ) → file ≡ other → drop begin file ≡ items → ∥ IsState (Some Torn) file (begin + stop) last count [] ∥₁ → ∥ IsTornAt other (begin + stop + 4) (drop (stop + 4) items) ∥₁
torn_at file other items begin stop last count same shown h =
    ∥∥₁_map h
    (λ s.
    subst (λ (f : List ℕ). IsTornAt f (begin + stop + 4) (drop (stop + 4) items)) same
    (record {
      batches = s.at.batches;
      torn = s.at.after;
      at_is = omega (arith, s.at.place_is, length-append (records [] s.at.batches) shut_mark);
      bytes_are = ap (λ (l : List ℕ). drop (stop + 4) l) (sym shown) ∙ drop-drop (stop + 4) begin file ∙ ap (λ (n : ℕ). drop n file) (let place : begin + (stop + 4) ≡ begin + stop + 4 = omega arith in place);
    }))
