use Rattle.kept_batches.proofs.HeadLemmas.{receipts_hold}
use Rattle.kept_batches.proofs.laws.receipts_hold.Goals as goal

pub returns : goal.returns
returns c = receipts_hold
