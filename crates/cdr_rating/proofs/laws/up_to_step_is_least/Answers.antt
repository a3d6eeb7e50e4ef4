use Rattle.cdr_rating.proofs.Rounding.{up_to_step_least}
use Rattle.cdr_rating.proofs.laws.up_to_step_is_least.Goals as goal

pub returns : goal.returns
returns c = up_to_step_least
