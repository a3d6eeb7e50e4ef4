use Rattle.provider_account.proofs.OwedLemmas.{amount_taken}
use Rattle.provider_account.proofs.owed.Owed.take.Goals as goal

pub returns-clause-amounts : goal.returns-clause-amounts
returns-clause-amounts c = λ other. amount_taken c.args.self.now.amounts c.take.new.self c.args.key.now other c.args.amount c.requires c.take.ensures.set
