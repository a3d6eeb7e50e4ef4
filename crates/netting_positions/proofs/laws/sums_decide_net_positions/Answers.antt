use Rattle.netting_positions.proofs.OweLemmas.{nets_decided}
use Rattle.netting_positions.proofs.laws.sums_decide_net_positions.Goals as goal

pub returns : goal.returns
returns c = nets_decided
