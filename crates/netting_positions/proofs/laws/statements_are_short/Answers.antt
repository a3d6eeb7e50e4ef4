use Rattle.netting_positions.proofs.ShortLemmas.{short}
use Rattle.netting_positions.proofs.laws.statements_are_short.Goals as goal

pub returns : goal.returns
returns c = short
