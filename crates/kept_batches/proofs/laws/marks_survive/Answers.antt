use Rattle.kept_batches.proofs.CrashLemmas.{marks_survive}
use Rattle.kept_batches.proofs.laws.marks_survive.Goals as goal

pub returns : goal.returns
returns c = marks_survive
