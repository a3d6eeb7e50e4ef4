use Rattle.netting_positions.proofs.BalancedLists.{are_balanced}
use Rattle.netting_positions.proofs.laws.net_positions_are_balanced.Goals as goal

pub returns : goal.returns
returns c = are_balanced
