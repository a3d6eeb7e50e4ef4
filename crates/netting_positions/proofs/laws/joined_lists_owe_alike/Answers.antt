use Rattle.netting_positions.proofs.OweLemmas.{joined}
use Rattle.netting_positions.proofs.laws.joined_lists_owe_alike.Goals as goal

pub returns : goal.returns
returns c = joined
