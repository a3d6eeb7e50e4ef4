use Rattle.std.proofs.Common.{◌+◌, ap, sym, ◌∙◌}
use Rattle.plain_house.specs.Exposure.{debts_of}
use Rattle.provider_account.specs.Inner.Debts.{all_periods}
use Rattle.provider_account.proofs.DebtsLemmas.{owed_at-charge, still_owed}
use Rattle.provider_account.proofs.debts.Debts.owed_with.Goals as goal

pub returns : goal.returns
returns c =
    let entries = c.args.entries.now in
    let key = all_periods c.args.scope.now in
    ap (λ n. n + c.counted_once.result) c.owed.ensures
    ∙ ap (λ n. debts_of c.args.scope.now entries + n) (c.counted_once.ensures.value ∙ still_owed c.args.self.now.ended entries c.requires.knows.ended c.args.charge.now key)
    ∙ sym (owed_at-charge key entries c.args.charge.now)
