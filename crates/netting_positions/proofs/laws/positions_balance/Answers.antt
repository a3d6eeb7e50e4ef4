use Rattle.netting_positions.proofs.BalanceLemmas.{balance}
use Rattle.netting_positions.proofs.laws.positions_balance.Goals as goal

pub returns : goal.returns
returns c = balance
