use Rattle.std.proofs.Common.{◌≡◌, ◌∙◌, ◌≤◌, ◌<◌, ◌^◌, ap, sym, ℤ, Some, None, arith}
use Rattle.std.specs.Prelude.{unsigned_abs}
use Rattle.netting_positions.specs.Netting.{total_size}
use Rattle.netting_positions.specs.SameSums.{is_between}
use Rattle.operator_book.specs.Due.{due}
use Rattle.operator_book.specs.State.{PlainBook}
use Rattle.operator_book.specs.declared.keys.SumKey.{SumKey}
use Rattle.operator_book.proofs.SumsLemmas.{sum_with}
use Rattle.operator_book.proofs.TogetherLemmas.{due_sum, row_with, sum_small, together_is}
use Rattle.operator_book.proofs.book.Book.owed.Goals as goal

pub returns-in_err-sum : goal.returns-in_err-sum
returns-in_err-sum c =
    let operator = c.args.operator.now in
    let provider = c.args.provider.now in
    let currency = c.args.currency.now in
    let period = c.args.period in
    let key : SumKey = record { operator = operator; provider = provider; currency = currency; period = period } in
    let os = due operator period c.args.self.now.entries in
    let found : c.of.result ≡ sum_with (is_between operator provider currency) os =
    c.of.ensures ∙ c.self.invariant.0.sums.sums_are key ∙ due_sum operator provider currency period c.self.inside.entries.items
    ∙ ap (λ (b : PlainBook). sum_with (is_between operator provider currency) (due operator period b.entries)) c.self.view_is in
    c.from_residual.ensures ∙ together_is operator provider currency os None (sym c.in_err-sum.was ∙ found)

pub amount-requires : goal.amount-requires
amount-requires c =
    let operator = c.args.operator.now in
    let provider = c.args.provider.now in
    let currency = c.args.currency.now in
    let period = c.args.period in
    let key : SumKey = record { operator = operator; provider = provider; currency = currency; period = period } in
    let os = due operator period c.args.self.now.entries in
    let found : c.of.result ≡ sum_with (is_between operator provider currency) os =
    c.of.ensures ∙ c.self.invariant.0.sums.sums_are key ∙ due_sum operator provider currency period c.self.inside.entries.items
    ∙ ap (λ (b : PlainBook). sum_with (is_between operator provider currency) (due operator period b.entries)) c.self.view_is in
    let small : unsigned_abs c.in_ok-sum.sum ≤ total_size os = sum_small operator provider currency os c.in_ok-sum.sum (sym c.in_ok-sum.was ∙ found) in
    let most : total_size os < 2 ^ 63 = c.requires in
    omega arith

pub returns : goal.returns
returns c =
    let operator = c.args.operator.now in
    let provider = c.args.provider.now in
    let currency = c.args.currency.now in
    let period = c.args.period in
    let key : SumKey = record { operator = operator; provider = provider; currency = currency; period = period } in
    let os = due operator period c.args.self.now.entries in
    let found : c.of.result ≡ sum_with (is_between operator provider currency) os =
    c.of.ensures ∙ c.self.invariant.0.sums.sums_are key ∙ due_sum operator provider currency period c.self.inside.entries.items
    ∙ ap (λ (b : PlainBook). sum_with (is_between operator provider currency) (due operator period b.entries)) c.self.view_is in
    ap (λ (sum : ℤ). Some (row_with operator provider currency sum)) c.amount.ensures
    ∙ together_is operator provider currency os (Some c.in_ok-sum.sum) (sym c.in_ok-sum.was ∙ found)
