use Rattle.std.proofs.Common.{arith}
use Rattle.provider_account.proofs.HoldsKnown.{covered}
use Rattle.provider_account.proofs.LimitsLemmas.{limited_scope}
use Rattle.provider_account.proofs.account_index.AccountIndex.put.Goals as goal

pub put-requires-3-clause-covered : goal.put-requires-3-clause-covered
put-requires-3-clause-covered c = covered c.args.self.now.holds c.args.entries.now c.requires.knows.holds

pub put-requires-3-clause-fits : goal.put-requires-3-clause-fits
put-requires-3-clause-fits c scope = omega (arith, limited_scope c.args.entries.now c.requires.limited scope, c.requires.knows.holds.sums scope)
