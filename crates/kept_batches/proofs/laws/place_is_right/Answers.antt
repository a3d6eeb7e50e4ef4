use Rattle.kept_batches.proofs.VerdictLemmas.{place_is_right}
use Rattle.kept_batches.proofs.laws.place_is_right.Goals as goal

pub returns : goal.returns
returns c = place_is_right
