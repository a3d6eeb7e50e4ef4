use Rattle.std.proofs.Common.{◌∙◌, ap, pos, unwrap_or, Some, cond}
use Rattle.std.specs.Prelude.{ℤ, Option, ◌+ℤ◌}
use Rattle.indexmap.specs.IndexMap.{get}
use Rattle.operator_book.specs.Inner.Sums.{same_sum_key}
use Rattle.operator_book.proofs.sums.OwedSums.add_to.Goals as goal

pub returns : goal.returns
returns c asked =
    let old = c.args.self.now.rows in
    let same = same_sum_key c.args.key asked in
    let updates = rw c.unwrap.ensures at c.insert.ensures.updates in
    let zero = c.zero.ensures ∙ ap (λ sum. unwrap_or sum (pos 0)) c.in_default.ensures.value in
    updates.0 asked ∙ ap (λ map. cond {A = Option ℤ} same (Some c.with-2.result) (get same_sum_key map asked)) c.get_mut.follows.holds-at-none
    ∙ ap (λ (sum : ℤ). cond {A = Option ℤ} same (Some sum) (get same_sum_key old asked)) (c.with-2.ensures ∙ ap (λ (sum : ℤ). sum +ℤ c.args.booked) zero)
