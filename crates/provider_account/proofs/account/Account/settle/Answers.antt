use Rattle.std.proofs.Common.{arith}
use Rattle.plain_house.specs.declared.entry.AccountEntry.TheVariants as account
use Rattle.provider_account.proofs.LimitsLemmas.{limited_weightless}
use Rattle.provider_account.proofs.account.Account.settle.Goals as goal

pub put-requires-clause-limited : goal.put-requires-clause-limited
put-requires-clause-limited c limited = limited_weightless c.entries_add_at_most.ensures c.args.self.now.entries limited (account.Settlement c.args.settlement) (λ provider currency. omega arith)
