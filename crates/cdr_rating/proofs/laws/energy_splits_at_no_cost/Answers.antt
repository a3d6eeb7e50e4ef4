use Rattle.cdr_rating.proofs.Rounding.{energy_splits}
use Rattle.cdr_rating.proofs.laws.energy_splits_at_no_cost.Goals as goal

pub returns : goal.returns
returns c = energy_splits
