use Rattle.kept_batches.proofs.CrashLemmas.{cuts_survive}
use Rattle.kept_batches.proofs.laws.cuts_survive.Goals as goal

pub returns : goal.returns
returns c = cuts_survive
