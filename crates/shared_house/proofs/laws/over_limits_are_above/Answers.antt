use Rattle.shared_house.proofs.PostLemmas.{over_limits_above}
use Rattle.shared_house.proofs.laws.over_limits_are_above.Goals as goal

pub returns : goal.returns
returns c = over_limits_above
