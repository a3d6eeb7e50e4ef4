use Rattle.kept_batches.proofs.FileLemmas.{keeps_one}
use Rattle.kept_batches.proofs.laws.keeps_one.Goals as goal

pub returns : goal.returns
returns c = keeps_one
