use Rattle.provider_account.proofs.OwedLemmas.{amount_added}
use Rattle.provider_account.proofs.owed.Owed.add.Goals as goal

pub returns-clause-amounts : goal.returns-clause-amounts
returns-clause-amounts c = λ other. amount_added c.args.self.now.amounts c.add.new.self c.args.key.now other c.args.amount c.add.ensures.set
