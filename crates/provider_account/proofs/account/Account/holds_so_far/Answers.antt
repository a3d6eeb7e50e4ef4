use Rattle.std.proofs.Common.{◌∙◌, ap, arith, count_by}
use Rattle.std.proofs.lemmas.List.Sums.{count_by-le-length}
use Rattle.plain_house.specs.House.{is_hold_of}
use Rattle.provider_account.specs.State.{PlainAccount}
use Rattle.provider_account.proofs.account.Account.holds_so_far.Goals as goal

pub returns-clause-value : goal.returns-clause-value
returns-clause-value c =
    let provider = c.args.provider.now in
    c.get.ensures ∙ (c.self.invariant.0.counts.holds_of provider ∙ ap (λ (a : PlainAccount). count_by (is_hold_of provider) a.entries) c.self.view_is)

pub returns-clause-bound : goal.returns-clause-bound
returns-clause-bound c =
    let provider = c.args.provider.now in
    let number = c.get.ensures ∙ (c.self.invariant.0.counts.holds_of provider ∙ ap (λ (a : PlainAccount). count_by (is_hold_of provider) a.entries) c.self.view_is) in
    omega (arith, number, count_by-le-length (is_hold_of provider) c.args.self.now.entries)
