-- The writes of a store.
use Rattle.std.proofs.Common.{◌≡◌, inl, ℕ, ◌+◌, ◌<◌, ◌≤◌, List, [], ◌∷◌, ◌++◌, length, take, sym, ◌∙◌, ap, subst, arith, length-append}
use Rattle.std.proofs.lemmas.List.{take_all, take_at}
use Rattle.sqlite_disk.specs.Disk.{Holds, Torn, Cut, Follows, Only}
use Rattle.kept_batches.specs.File.{open_mark, shut_mark, record_of, records, all_lines, file_of, staged, IsTorn, IsUnbegun, IsBeforeOrAfter, Keeps}
use Rattle.kept_batches.specs.Inner.Writes.{IsNext}
use Rattle.kept_batches.proofs.CrashLemmas.{appends_survive, cuts_survive, beginnings_survive, few}
use Rattle.kept_batches.proofs.Steps.{written_range, same_front}

module _ (old : List ℕ) (end : ℕ) (text : List ℕ) (batches : List (List (List ℕ))) (batch : List (List ℕ)) (n : IsNext old end text batches batch) where
  size : end + 4 ≡ length (file_of batches)
  size = omega (arith, n.end_is, length-append (records [] batches) shut_mark)

  behind_mark : (c : List ℕ) → Torn (end + 4) (length text) old c → Torn (length (file_of batches)) (length text) (file_of batches) c
  behind_mark c t = subst (λ (at : ℕ). Torn at (length text) (file_of batches) c) size (subst (λ (f : List ℕ). Torn (end + 4) (length text) f c) n.file_is t)

  stage_keeps : (c : List ℕ) → Torn (end + 4) (length text) old c → Keeps c (all_lines batches)
  stage_keeps c t = (appends_survive batches batch n.are n.good).written (length text) c (let most = few batches batch n.are n.good in omega (arith, most, ap length n.text_is)) (behind_mark c t)

  pub stage_left : (before after : List ℕ → Type 0) → Only old before → Follows (Torn (end + 4) (length text)) before after → (c : List ℕ) → after c → IsBeforeOrAfter (all_lines batches) batch c
  stage_left before after only follows c left =
      let from = follows c left in inl (stage_keeps c (subst (λ (f : List ℕ). Torn (end + 4) (length text) f c) (only from.0 from.1) from.2))

  pub stage_is : (c : List ℕ) → Torn (end + 4) (length text) old c → Holds c (end + 4) text → c ≡ staged batches batch
  stage_is c t h =
      (appends_survive batches batch n.are n.good).staged_is c
      (subst (λ (x : List ℕ). Torn (length (file_of batches)) (length x) (file_of batches) c) n.text_is (behind_mark c t))
      (subst (λ (x : List ℕ). Holds c (length (file_of batches)) x) n.text_is (subst (λ (at : ℕ). Holds c at text) size h))

  at_mark : (f c : List ℕ) → f ≡ staged batches batch → Torn end 4 f c → Torn (length (records [] batches)) 4 (staged batches batch) c
  at_mark f c e t = subst (λ (at : ℕ). Torn at 4 (staged batches batch) c) n.end_is (subst (λ (x : List ℕ). Torn end 4 x c) e t)

  pub mark_left : (f : List ℕ) (before after : List ℕ → Type 0) → f ≡ staged batches batch → Only f before → Follows (Torn end 4) before after → (c : List ℕ) → after c → IsBeforeOrAfter (all_lines batches) batch c
  mark_left f before after e only follows c left =
      let from = follows c left in
      (appends_survive batches batch n.are n.good).marked c (at_mark f c e (subst (λ (x : List ℕ). Torn end 4 x c) (only from.0 from.1) from.2))

  pub mark_is : (f c : List ℕ) → f ≡ staged batches batch → Torn end 4 f c → Holds c end open_mark → c ≡ file_of (batches ++ batch ∷ [])
  mark_is f c e t h = (appends_survive batches batch n.are n.good).opened c (at_mark f c e t) (subst (λ (at : ℕ). Holds c at open_mark) n.end_is h)

  pub some : 0 < length text
  some = omega (arith, ap length n.text_is, length-append (record_of (all_lines batches) batch) shut_mark)

module _ (old : List ℕ) (size : ℕ) (batches : List (List (List ℕ))) (t : IsTorn batches old) (size_is : size ≡ length (file_of batches)) where
  pub cut_left : (before after : List ℕ → Type 0) → Only old before → Follows (Cut size) before after → (c : List ℕ) → after c → Keeps c (all_lines batches)
  cut_left before after only follows c left =
      let from = follows c left in
      cuts_survive batches old c t (subst (λ (n : ℕ). Cut n old c) size_is (subst (λ (f : List ℕ). Cut size f c) (only from.0 from.1) from.2))

  pub cut_is : (c : List ℕ) → Cut size old c → length c ≡ size → c ≡ file_of batches
  cut_is c cut long =
      let file : take size old ≡ file_of batches = ap (λ (l : List ℕ). take size l) t.is ∙ take_at (file_of batches) t.rest size (sym size_is) in
      let low : size ≤ length old = omega (arith, ap length t.is, length-append (file_of batches) t.rest, size_is) in
      sym (take_all size c (omega (arith, long))) ∙ same_front size c old (omega (arith, long)) low (λ i less. cut.below i (omega (arith, low, less)) less) ∙ file

pub begin_left : (old : List ℕ) → IsUnbegun old → (before after : List ℕ → Type 0) → Only old before → Follows (Torn 0 4) before after → (c : List ℕ) → after c → Keeps c []
begin_left old u before after only follows c left =
    let from = follows c left in beginnings_survive old c u (subst (λ (f : List ℕ). Torn 0 4 f c) (only from.0 from.1) from.2)

pub begin_is : (old c : List ℕ) → IsUnbegun old → Torn 0 4 old c → Holds c 0 shut_mark → c ≡ shut_mark
begin_is old c u t h =
    sym (take_all 4 c (omega (arith, t.no_longer, u.short))) ∙ written_range 0 shut_mark c h
