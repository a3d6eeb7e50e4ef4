use Rattle.std.proofs.Common.{◌∙◌, arith}
use Rattle.provider_account.proofs.LimitsLemmas.{limited_scope}
use Rattle.provider_account.proofs.account_index.AccountIndex.exposure.Goals as goal

pub overflow_add-result : goal.overflow_add-result
overflow_add-result c =
    let limit = limited_scope c.args.entries.now c.requires.limited c.args.scope.now in
    let sums = c.total.ensures ∙ c.requires.knows.holds.sums c.args.scope.now in
    omega (arith, limit, sums, c.owed.ensures)

pub returns-clause-bound : goal.returns-clause-bound
returns-clause-bound c =
    let limit = limited_scope c.args.entries.now c.requires.limited c.args.scope.now in
    let sums = c.total.ensures ∙ c.requires.knows.holds.sums c.args.scope.now in
    omega (arith, limit, sums, c.owed.ensures)
