use Rattle.kept_batches.proofs.CrashLemmas.{appends_survive}
use Rattle.kept_batches.proofs.laws.appends_survive.Goals as goal

pub returns : goal.returns
returns c = appends_survive
