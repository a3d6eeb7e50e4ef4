use Rattle.std.proofs.Common.{◌+◌, ap₂, ◌∙◌, arith}
use Rattle.provider_account.proofs.HoldsKnown.{covered, total_with_known}
use Rattle.provider_account.proofs.LimitsLemmas.{limited_scope, with_charge}
use Rattle.provider_account.proofs.account_index.AccountIndex.exposure_with.Goals as goal

pub total_with-requires : goal.total_with-requires
total_with-requires c = covered c.args.self.now.holds c.args.entries.now c.requires.knows.holds

pub owed_with-requires-clause-fits : goal.owed_with-requires-clause-fits
owed_with-requires-clause-fits c = omega (arith, limited_scope c.args.entries.now c.requires.limited c.args.scope.now)

pub overflow_add-result : goal.overflow_add-result
overflow_add-result c =
    let sums = c.total_with.ensures ∙ total_with_known c.args.self.now.holds c.args.entries.now c.requires.knows.holds c.args.scope.now c.args.charge.now in
    let limit = with_charge c.entries_add_at_most.ensures c.args.entries.now c.requires.limited c.args.charge.now c.args.scope.now (omega arith) in
    omega (arith, sums, limit, c.owed_with.ensures)

pub returns-clause-value : goal.returns-clause-value
returns-clause-value c =
    let sums = c.total_with.ensures ∙ total_with_known c.args.self.now.holds c.args.entries.now c.requires.knows.holds c.args.scope.now c.args.charge.now in
    ap₂ (λ a b. a + b) sums c.owed_with.ensures

pub returns-clause-bound : goal.returns-clause-bound
returns-clause-bound c =
    let sums = c.total_with.ensures ∙ total_with_known c.args.self.now.holds c.args.entries.now c.requires.knows.holds c.args.scope.now c.args.charge.now in
    let limit = with_charge c.entries_add_at_most.ensures c.args.entries.now c.requires.limited c.args.charge.now c.args.scope.now (omega arith) in
    omega (arith, sums, limit, c.owed_with.ensures)
