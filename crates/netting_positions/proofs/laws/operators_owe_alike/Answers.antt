use Rattle.netting_positions.proofs.ByOperator.{operators_alike}
use Rattle.netting_positions.proofs.laws.operators_owe_alike.Goals as goal

pub returns : goal.returns
returns c = operators_alike
