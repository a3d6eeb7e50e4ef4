use Rattle.plain_house.proofs.BalanceLemmas.{closed_stay}
use Rattle.plain_house.proofs.laws.closed_periods_stay.Goals as goal

pub returns : goal.returns
returns c = closed_stay
