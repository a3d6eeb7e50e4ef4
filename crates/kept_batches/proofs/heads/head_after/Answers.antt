use Rattle.std.proofs.Common.{refl, ◌≡◌, ◌+◌, ◌-◌, ◌++◌, ℕ, List, length, take, drop, sym, ◌∙◌, ap, arith, length-drop}
use Rattle.std.proofs.lemmas.List.{take_rest}
use Rattle.sha2.specs.Sha256.{sha256}
use Rattle.kept_batches.specs.Heads.{heads_from}
use Rattle.kept_batches.specs.Text.{lines_in}
use Rattle.kept_batches.proofs.LineLemmas.{first_line, no_line}
use Rattle.kept_batches.proofs.heads.head_after.Goals as goal

pub overflow_add-count : goal.overflow_add-count
overflow_add-count c = omega (arith, c.in-Some.ensures.some.within, c.loop-count.invariant.1, c.type_inv.text)

pub overflow_add-rest : goal.overflow_add-rest
overflow_add-rest c = omega (arith, c.in-Some.ensures.some.within, c.loop-count.invariant.1, c.type_inv.text)

pub loop-count-preserved : goal.loop-count-preserved
loop-count-preserved c =
    let b = c.in-Some.ensures.some in
    let rest = c.loop-count.rest.now in
    let n = c.in-Some.count in
    let last = c.loop-count.last in (
      ap (λ (l : List ℕ). heads_from c.next_head-last.result (lines_in l)) (take_rest rest (n + 2))
          ∙ ap (λ (h : List ℕ). heads_from h (lines_in (drop (n + 2) rest)))
          (c.next_head-last.ensures ∙ ap (λ (k : ℕ). sha256 (last ++ take k (drop 1 rest))) (let same : n + 1 - 1 ≡ n = omega arith in same))
          ∙ sym (ap (λ (l : List (List ℕ)). heads_from last l) (first_line rest n b))
          ∙ c.loop-count.invariant.0,
      omega (arith, c.loop-count.invariant.1, ap length (take_rest rest (n + 2)), length-drop (n + 2) rest),
    )

pub returns : goal.returns
returns c = sym (ap (λ (l : List (List ℕ)). heads_from c.loop-count.last l) (no_line c.loop-count.rest.now (c.in_default.ensures.none refl))) ∙ c.loop-count.invariant.0
