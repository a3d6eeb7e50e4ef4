-- A batch at the front of a text.
use Rattle.std.proofs.Common.{◌≡◌, ◌≢◌, ◌⊎◌, inl, inr, ℕ, ◌+◌, ◌-◌, ◌<◌, ◌≤◌, true, false, List, [], ◌++◌, length, take, drop, refl, sym, ◌∙◌, ap, arith, append_assoc, length-append, length-drop, take-append-drop}
use Rattle.std.proofs.lemmas.List.{take_at, append-nil, drop-drop, take-append-le, length-take-le}
use Rattle.kept_batches.specs.Text.{lines_in, marked}
use Rattle.kept_batches.specs.Heads.{head, heads_from}
use Rattle.kept_batches.specs.File.{IsBatch, most_bytes, header, record_of}
use Rattle.kept_batches.specs.Verdict.{number, candidate, begins, after}
use Rattle.kept_batches.specs.Inner.Finding.{BeginsWith, IsMissing}
use Rattle.kept_batches.proofs.Parsing.{parts}
use Rattle.kept_batches.proofs.FileLemmas.{length-record_of}
use Rattle.kept_batches.proofs.LineLemmas.{head-after}
use Rattle.kept_batches.proofs.Batches.{header-front}
use Rattle.kept_batches.proofs.VerdictLemmas.{number-record_of, drop-record_of, begins-record_of, after-record_of, yes_or_no, Begun, begun}

module _ (text : List ℕ) where
  abbrev size : ℕ
  size = number 0 (take 8 (drop 1 text))

  abbrev lines : List ℕ
  lines = take size (drop 75 text)

  record Whole (before : List (List ℕ)) : Type 0 where
    pub good : IsBatch (candidate text)
    pub size_is : size ≡ length (marked (candidate text))
    pub long : 75 + size ≤ length text
    pub lines_are : lines ≡ marked (candidate text)
    pub split : text ≡ record_of before (candidate text) ++ after before text

  of_begun : (before : List (List ℕ)) → Begun before text → Whole before
  of_begun before b =
      let batch = candidate text in
      let t = after before text in
      let size_is : size ≡ length (marked batch) = ap (λ (l : List ℕ). number 0 (take 8 (drop 1 l))) b.is_split ∙ number-record_of before batch t b.good in
      record {
        good = b.good;
        size_is = size_is;
        long = omega (arith, size_is, ap length b.is_split, length-append (record_of before batch) t, length-record_of before batch);
        lines_are = ap (λ (n : ℕ). take n (drop 75 text)) size_is ∙ ap (λ (l : List ℕ). take (length (marked batch)) (drop 75 l)) b.is_split
            ∙ ap (λ (l : List ℕ). take (length (marked batch)) l) (drop-record_of before batch t) ∙ take_at (marked batch) t _ refl;
        split = b.is_split;
      }

  missing : (before : List (List ℕ)) → (Whole before → ⊥) → begins before text ≡ false
  missing before no_whole = pick (yes_or_no (begins before text))
    where
      pick : (begins before text ≡ true) ⊎ (begins before text ≡ false) → begins before text ≡ false
      pick (inl e) = absurd (no_whole (of_begun before (begun before text e)))
      pick (inr e) = e

  pub too_short : (last : List ℕ) → length text < 75 → IsMissing last text
  too_short last few before e = missing before (λ w. absurd (omega (arith, few, w.long)))

  pub too_large : (last : List ℕ) → (most_bytes < size) ⊎ (length text - 75 < size) → IsMissing last text
  too_large last (inl few) before e = missing before (λ w. absurd (omega (arith, few, w.size_is, w.good.fits)))
  too_large last (inr few) before e = missing before (λ w. absurd (omega (arith, few, w.long)))

  pub no_lines_there : (last : List ℕ) → lines ≢ marked (lines_in lines) → IsMissing last text
  no_lines_there last differ before e = missing before (λ w. differ w.lines_are)

  module _ (last : List ℕ) (before : List (List ℕ)) (head_is : last ≡ head before) (next : List ℕ) (next_is : next ≡ heads_from last (lines_in lines)) where
    next_head : next ≡ head (before ++ candidate text)
    next_head = next_is ∙ ap (λ (h : List ℕ). heads_from h (lines_in lines)) head_is ∙ head-after before (candidate text)

    -- the header of the batch that these lines are
    want : size ≡ length (marked (candidate text)) → take 75 (record_of before (candidate text)) ≡ header size next
    want size_is = header-front before (candidate text) ∙ ap (λ (n : ℕ). header n (head (before ++ candidate text))) (sym size_is) ∙ ap (λ (h : List ℕ). header size h) (sym next_head)

    fronts : (t : List ℕ) → take 75 (record_of before (candidate text) ++ t) ≡ take 75 (record_of before (candidate text))
    fronts t = take-append-le 75 (record_of before (candidate text)) t (omega (arith, length-record_of before (candidate text)))

    pub other_front : take 75 text ≢ header size next → begins before text ≡ false
    other_front differ = missing before (λ w. differ (ap (λ (l : List ℕ). take 75 l) w.split ∙ fronts (after before text) ∙ want w.size_is))

    pub there : 75 + size ≤ length text → size ≤ most_bytes → lines ≡ marked (candidate text) → take 75 text ≡ header size next → BeginsWith before text size next
    there long fits are front =
        let batch = candidate text in
        let t = drop (75 + size) text in
        let size_is : size ≡ length (marked batch) = sym (length-take-le size (drop 75 text) (omega (arith, long, length-drop 75 text))) ∙ ap length are in
        let good : IsBatch batch = record { are = (parts lines).are; fits = omega (arith, fits, size_is) } in
        let tail : drop 75 text ≡ marked batch ++ t =
        sym (take-append-drop size (drop 75 text)) ∙ ap (λ (l : List ℕ). l ++ drop size (drop 75 text)) are ∙ ap (λ (l : List ℕ). marked batch ++ l) (drop-drop size 75 text) in
        let body_tail : drop 75 (record_of before batch) ≡ marked batch = sym (ap (λ (l : List ℕ). drop 75 l) (append-nil (record_of before batch))) ∙ drop-record_of before batch [] ∙ append-nil (marked batch) in
        let body_is : take 75 text ++ marked batch ≡ record_of before batch =
        ap (λ (l : List ℕ). l ++ marked batch) (front ∙ sym (want size_is))
        ∙ ap (λ (l : List ℕ). take 75 (record_of before batch) ++ l) (sym body_tail) ∙ take-append-drop 75 (record_of before batch) in
        let split : text ≡ record_of before batch ++ t =
        sym (take-append-drop 75 text) ∙ ap (λ (l : List ℕ). take 75 text ++ l) tail ∙ sym (append_assoc (take 75 text) (marked batch) t) ∙ ap (λ (l : List ℕ). l ++ t) body_is in
        record {
          begins_with = ap (λ (l : List ℕ). begins before l) split ∙ begins-record_of before batch t good;
          size_is = size_is;
          within = long;
          lines_are = are;
          after_is = sym (ap (λ (l : List ℕ). after before l) split ∙ after-record_of before batch t good);
          next_is = next_head;
        }

-- the lines as the code cuts them
pub same_size : (text : List ℕ) (n : ℕ) → n ≡ size text → take (75 + n - 75) (drop 75 text) ≡ lines text
same_size text n e = ap (λ (k : ℕ). take k (drop 75 text)) (let same : 75 + n - 75 ≡ n = omega arith in same ∙ e)
