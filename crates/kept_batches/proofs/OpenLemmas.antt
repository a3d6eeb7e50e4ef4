-- The two halves of a mark.
use Rattle.std.proofs.Common.{◌≡◌, ◌≢◌, ◌⊎◌, inl, inr, ℕ, ◌+◌, Bool, List, [], ◌∷◌, ◌++◌, length, get_or, take, drop, sym, ◌∙◌, ap, subst, arith, append_assoc, length-append}
use Rattle.sqlite_disk.specs.Disk.{Holds, Torn, Follows, Only}
use Rattle.kept_batches.specs.File.{shut_mark, record_of, records, all_lines, file_of, Keeps}
use Rattle.kept_batches.specs.Inner.Writes.{IsOverwritten, IsHalved}
use Rattle.kept_batches.proofs.CrashLemmas.{torn_range, torn_size, marks_survive, file_of-append}
use Rattle.kept_batches.proofs.Steps.{written_range}

module _ (old : List ℕ) (at size : ℕ) (front middle back : List ℕ) (old_is : old ≡ front ++ (middle ++ back)) (at_is : at ≡ length front) (size_is : size ≡ length middle) where
  there : (c : List ℕ) → Torn at size old c → Torn (length front) (length middle) (front ++ (middle ++ back)) c
  there c t =
      subst (λ (n : ℕ). Torn (length front) n (front ++ (middle ++ back)) c) size_is
      (subst (λ (n : ℕ). Torn n size (front ++ (middle ++ back)) c) at_is (subst (λ (f : List ℕ). Torn at size f c) old_is t))

  pub over_left : (before after : List ℕ → Type 0) → Only old before → Follows (Torn at size) before after → (c : List ℕ) → after c → IsOverwritten front middle back c
  over_left before after only follows c left =
      let from = follows c left in
      let t = there c (subst (λ (f : List ℕ). Torn at size f c) (only from.0 from.1) from.2) in
      record { range = take (length middle) (drop (length front) c); size = torn_size front middle back c t; is = torn_range front middle back c t }

  pub over_is : (text c : List ℕ) → length text ≡ size → Torn at size old c → Holds c at text → c ≡ front ++ (text ++ back)
  over_is text c same t h =
      torn_range front middle back c (there c t)
      ∙ ap (λ (l : List ℕ). front ++ (l ++ back))
      (ap (λ (n : ℕ). take n (drop (length front) c)) (sym size_is ∙ sym same)
      ∙ ap (λ (n : ℕ). take (length text) (drop n c)) (sym at_is) ∙ written_range at text c h)

module _ (old : List ℕ) (end : ℕ) (shut : Bool) (batches : List (List (List ℕ))) (batch : List (List ℕ)) (h : IsHalved old end shut batches batch) where
  abbrev back : List ℕ
  back = record_of (all_lines batches) batch ++ shut_mark

  regroup : (first second : List ℕ) → records [] batches ++ ((first ++ second) ++ (record_of (all_lines batches) batch ++ shut_mark)) ≡ records [] batches ++ (first ++ (second ++ (record_of (all_lines batches) batch ++ shut_mark)))
  regroup first second = ap (λ (l : List ℕ). records [] batches ++ l) (append_assoc first second (record_of (all_lines batches) batch ++ shut_mark))

  pub regroup_back : (first second : List ℕ) → records [] batches ++ ((first ++ second) ++ (record_of (all_lines batches) batch ++ shut_mark)) ≡ (records [] batches ++ first) ++ (second ++ (record_of (all_lines batches) batch ++ shut_mark))
  regroup_back first second = regroup first second ∙ sym (append_assoc (records [] batches) first (second ++ (record_of (all_lines batches) batch ++ shut_mark)))

  -- the file by its first half, with any second half
  pub at_first : (file second : List ℕ) → file ≡ records [] batches ++ ((h.first ++ second) ++ (record_of (all_lines batches) batch ++ shut_mark)) → file ≡ records [] batches ++ (h.first ++ (second ++ (record_of (all_lines batches) batch ++ shut_mark)))
  at_first file second e = e ∙ regroup h.first second

  pub keeps_halves : (c first second : List ℕ) → c ≡ records [] batches ++ ((first ++ second) ++ (record_of (all_lines batches) batch ++ shut_mark)) → length first ≡ 2 → length second ≡ 2
      → (first ≢ 45 ∷ 45 ∷ []) ⊎ (second ≢ 45 ∷ 45 ∷ []) → Keeps c (all_lines batches ++ batch)
  keeps_halves c first second e two too not =
      subst (λ (f : List ℕ). Keeps f (all_lines batches ++ batch)) (sym e) (marks_survive batches batch first second h.are h.good two too not)

  pub first_range : (c second : List ℕ) → length second ≡ 2 → (second ≢ 45 ∷ 45 ∷ []) → IsOverwritten (records [] batches) h.first (second ++ (record_of (all_lines batches) batch ++ shut_mark)) c → Keeps c (all_lines batches ++ batch)
  first_range c second two not o = keeps_halves c o.range second (o.is ∙ sym (regroup o.range second)) (o.size ∙ h.two) two (inr not)

  pub second_range : (c first : List ℕ) → length first ≡ 2 → (first ≢ 45 ∷ 45 ∷ []) → IsOverwritten (records [] batches ++ first) h.second (record_of (all_lines batches) batch ++ shut_mark) c → Keeps c (all_lines batches ++ batch)
  second_range c first two not o = keeps_halves c first o.range (o.is ∙ sym (regroup_back first o.range)) two (o.size ∙ h.two_too) (inl not)

  pub by_first : old ≡ records [] batches ++ (h.first ++ (h.second ++ (record_of (all_lines batches) batch ++ shut_mark)))
  by_first = h.file_is ∙ regroup h.first h.second

  pub by_second : old ≡ (records [] batches ++ h.first) ++ (h.second ++ (record_of (all_lines batches) batch ++ shut_mark))
  by_second = h.file_is ∙ regroup_back h.first h.second

  pub second_at : (first : List ℕ) → length first ≡ 2 → end + 2 ≡ length (records [] batches ++ first)
  second_at first two = omega (arith, two, h.end_is, length-append (records [] batches) first)

  pub opened : (f : List ℕ) → f ≡ records [] batches ++ ((107 ∷ 101 ∷ []) ++ ((112 ∷ 116 ∷ []) ++ (record_of (all_lines batches) batch ++ shut_mark))) → f ≡ file_of (batches ++ batch ∷ [])
  opened f e = e ∙ sym (file_of-append batches batch)

  -- between the two writes
  pub first_done : (f : List ℕ) → f ≡ records [] batches ++ ((107 ∷ 101 ∷ []) ++ (h.second ++ (record_of (all_lines batches) batch ++ shut_mark))) → f ≡ (records [] batches ++ (107 ∷ 101 ∷ [])) ++ (h.second ++ (record_of (all_lines batches) batch ++ shut_mark))
  first_done f e = e ∙ sym (append_assoc (records [] batches) (107 ∷ 101 ∷ []) (h.second ++ (record_of (all_lines batches) batch ++ shut_mark)))

  pub second_done : (f : List ℕ) → f ≡ (records [] batches ++ h.first) ++ ((112 ∷ 116 ∷ []) ++ (record_of (all_lines batches) batch ++ shut_mark)) → f ≡ records [] batches ++ (h.first ++ ((112 ∷ 116 ∷ []) ++ (record_of (all_lines batches) batch ++ shut_mark)))
  second_done f e = e ∙ append_assoc (records [] batches) h.first ((112 ∷ 116 ∷ []) ++ (record_of (all_lines batches) batch ++ shut_mark))

  pub ke : ◌≢◌ {A = List ℕ} (107 ∷ 101 ∷ []) (45 ∷ 45 ∷ [])
  ke e = absurd (omega (arith, ap (λ (l : List ℕ). get_or l 0 0) e))

  pub pt : ◌≢◌ {A = List ℕ} (112 ∷ 116 ∷ []) (45 ∷ 45 ∷ [])
  pt e = absurd (omega (arith, ap (λ (l : List ℕ). get_or l 0 0) e))

  pub last_joined : (f : List ℕ) → f ≡ (records [] batches ++ (107 ∷ 101 ∷ [])) ++ ((112 ∷ 116 ∷ []) ++ (record_of (all_lines batches) batch ++ shut_mark)) → f ≡ file_of (batches ++ batch ∷ [])
  last_joined f e = opened f (e ∙ append_assoc (records [] batches) (107 ∷ 101 ∷ []) ((112 ∷ 116 ∷ []) ++ (record_of (all_lines batches) batch ++ shut_mark)))
