use Rattle.provider_account.proofs.LimitsLemmas.{limited_charge}
use Rattle.provider_account.proofs.account.Account.bill.Goals as goal

pub put-requires-clause-limited : goal.put-requires-clause-limited
put-requires-clause-limited c limited = limited_charge c.entries_add_at_most.ensures c.args.self.now.entries limited c.exposures_in_any_spelling.ensures c.args.charge c.requires.within
