use Rattle.kept_batches.proofs.ChangeLemmas.{one_byte_tells}
use Rattle.kept_batches.proofs.laws.one_byte_tells.Goals as goal

pub returns : goal.returns
returns c = one_byte_tells
