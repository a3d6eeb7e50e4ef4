-- A line of a batch in a window.
use Rattle.std.proofs.Common.{◌≡◌, ℕ, ◌+◌, ◌-◌, ◌<◌, ◌≤◌, List, ◌∷◌, length, take, drop, sym, ◌∙◌, ap, arith, length-drop}
use Rattle.std.proofs.lemmas.List.{drop-take, drop-drop, take-take, length-take}
use Rattle.kept_batches.specs.Text.{lines_in, marked}
use Rattle.kept_batches.specs.Inner.Lines.{BeginsLine, BeginsNoLine}
use Rattle.kept_batches.specs.Inner.Finding.{HasLines}
use Rattle.kept_batches.proofs.LineLemmas.{first_line, no_line, lines_with}

-- the lines of a batch are in the window
pub lines_fit : (items : List ℕ) (stop size : ℕ) → HasLines (drop 4 (drop stop items)) size → stop + 79 + size ≤ length items
lines_fit items stop size h = let low = h.within in omega (arith, low, length-drop 4 (drop stop items), length-drop stop items)

module _ (items : List ℕ) (next stop : ℕ) where
  abbrev pub text : List ℕ
  text = take (stop - next) (drop next items)

  part : (k m : ℕ) → stop - next ≡ k + m → drop k (take (stop - next) (drop next items)) ≡ take m (drop (next + k) items)
  part k m is =
      ap (λ (n : ℕ). drop k (take n (drop next items))) is ∙ drop-take k m (drop next items) ∙ ap (λ (l : List ℕ). take m l) (drop-drop k next items)

  module _ (count : ℕ) (b : BeginsLine (take (stop - next) (drop next items)) count) where
    long : count + 2 ≤ stop - next
    long = let low = b.within in omega (arith, low, length-take (stop - next) (drop next items))

    pub line_fits : next + count + 2 ≤ stop
    line_fits = omega (arith, long)

    pub line_is : take ((next + 1 + count) - (next + 1)) (drop (next + 1) items) ≡ take count (drop 1 (take (stop - next) (drop next items)))
    line_is =
        ap (λ (n : ℕ). take n (drop (next + 1) items)) (let same : (next + 1 + count) - (next + 1) ≡ count = omega arith in same)
        ∙ sym (ap (λ (l : List ℕ). take count l) (part 1 (stop - next - 1) (omega (arith, long))) ∙ take-take count (stop - next - 1) (drop (next + 1) items) (omega (arith, long)))

    pub rest_is : take (stop - (next + 1 + count + 1)) (drop (next + 1 + count + 1) items) ≡ drop (count + 2) (take (stop - next) (drop next items))
    rest_is =
        ap (λ (n : ℕ). take (stop - n) (drop n items)) (let same : next + 1 + count + 1 ≡ next + (count + 2) = omega arith in same)
        ∙ sym (part (count + 2) (stop - (next + (count + 2))) (omega (arith, long)))

    pub lent_is : lines_in (take (stop - next) (drop next items))
        ≡ take ((next + 1 + count) - (next + 1)) (drop (next + 1) items) ∷ lines_in (take (stop - (next + 1 + count + 1)) (drop (next + 1 + count + 1) items))
    lent_is =
        first_line (take (stop - next) (drop next items)) count b
        ∙ ap (λ (l : List ℕ). l ∷ lines_in (drop (count + 2) (take (stop - next) (drop next items)))) (sym line_is)
        ∙ ap (λ (l : List ℕ). take ((next + 1 + count) - (next + 1)) (drop (next + 1) items) ∷ lines_in l) (sym rest_is)

    pub marked_rest : take (stop - next) (drop next items) ≡ marked (lines_in (take (stop - next) (drop next items)))
        → take (stop - (next + 1 + count + 1)) (drop (next + 1 + count + 1) items) ≡ marked (lines_in (take (stop - (next + 1 + count + 1)) (drop (next + 1 + count + 1) items)))
    marked_rest whole =
        rest_is
        ∙ (lines_with (take (stop - next) (drop next items)) count b).1 whole
        ∙ ap (λ (l : List ℕ). marked (lines_in l)) (sym rest_is)

  -- a batch with more lines begins with one
  pub has_line : take (stop - next) (drop next items) ≡ marked (lines_in (take (stop - next) (drop next items))) → next < stop → stop ≤ length items → BeginsNoLine (take (stop - next) (drop next items)) → ⊥
  has_line whole some low none =
      let nothing : length (take (stop - next) (drop next items)) ≡ 0 = ap length (whole ∙ ap marked (no_line (take (stop - next) (drop next items)) none)) in
      omega (arith, some, low, nothing, length-take (stop - next) (drop next items), length-drop next items)
