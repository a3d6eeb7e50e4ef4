use Rattle.kept_batches.proofs.CrashLemmas.{beginnings_survive}
use Rattle.kept_batches.proofs.laws.beginnings_survive.Goals as goal

pub returns : goal.returns
returns c = beginnings_survive
