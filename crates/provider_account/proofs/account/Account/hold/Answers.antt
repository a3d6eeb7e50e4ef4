use Rattle.provider_account.proofs.LimitsLemmas.{limited_hold}
use Rattle.provider_account.proofs.account.Account.hold.Goals as goal

pub put-requires-clause-limited : goal.put-requires-clause-limited
put-requires-clause-limited c limited = limited_hold c.entries_add_at_most.ensures c.args.self.now.entries limited c.exposures_in_any_spelling.ensures c.args.hold c.requires.within
