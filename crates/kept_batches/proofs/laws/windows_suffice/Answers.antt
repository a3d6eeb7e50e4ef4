use Rattle.kept_batches.proofs.WindowLemmas.{windows_suffice}
use Rattle.kept_batches.proofs.laws.windows_suffice.Goals as goal

pub returns : goal.returns
returns c = windows_suffice
