use Rattle.std.proofs.Common.{◌∙◌, ap, count_by}
use Rattle.plain_house.specs.Full.{is_entry_of}
use Rattle.provider_account.specs.State.{PlainAccount}
use Rattle.provider_account.proofs.account.Account.is_full.Goals as goal

pub returns : goal.returns
returns c =
    let provider = c.args.provider.now in
    let number = c.get-2.ensures ∙ (c.self.invariant.0.counts.entries_of provider ∙ ap (λ (a : PlainAccount). count_by (is_entry_of provider) a.entries) c.self.view_is) in
    rw (c.get.ensures.value, number)
