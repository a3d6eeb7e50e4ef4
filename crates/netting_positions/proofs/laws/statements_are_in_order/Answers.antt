use Rattle.netting_positions.proofs.ShortLemmas.{ordered}
use Rattle.netting_positions.proofs.laws.statements_are_in_order.Goals as goal

pub returns : goal.returns
returns c = ordered
