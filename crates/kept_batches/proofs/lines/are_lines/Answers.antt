use Rattle.std.proofs.Common.{refl, ◌≡◌, ◌↔◌, ◌+◌, ℕ, List, length, sym, ap, subst, arith, length-drop}
use Rattle.std.proofs.lemmas.List.{take_rest}
use Rattle.kept_batches.specs.Text.{lines_in, marked}
use Rattle.kept_batches.proofs.LineLemmas.{lines_with, lines_none}
use Rattle.kept_batches.proofs.lines.are_lines.Goals as goal

pub loop-count-preserved : goal.loop-count-preserved
loop-count-preserved c =
    let rest = c.loop-count.rest.now in
    let n = c.in-Some.count in
    let one = lines_with rest n c.in-Some.ensures.some in
    let all = c.loop-count.invariant.0 in (
      subst (λ (l : List ℕ). (l ≡ marked (lines_in l)) ↔ (c.args.text.now ≡ marked (lines_in c.args.text.now))) (sym (take_rest rest (n + 2))) (λ e. all.0 (one.0 e), λ e. one.1 (all.1 e)),
      omega (arith, c.loop-count.invariant.1, ap length (take_rest rest (n + 2)), length-drop (n + 2) rest),
    )

pub returns : goal.returns
returns c =
    let none = lines_none c.loop-count.rest.now (c.in_default.ensures.none refl) in
    let all = c.loop-count.invariant.0 in
    let empty = c.is_nothing.ensures in
    (λ t. all.0 (none.0 (empty.0 t)), λ e. empty.1 (none.1 (all.1 e)))
