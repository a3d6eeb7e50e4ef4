use Rattle.kept_batches.proofs.VerdictLemmas.{verdict_is_right}
use Rattle.kept_batches.proofs.laws.verdict_is_right.Goals as goal

pub returns : goal.returns
returns c = verdict_is_right
