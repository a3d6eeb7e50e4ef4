use Rattle.cdr_rating.proofs.Rounding.{rounded_half_up}
use Rattle.cdr_rating.proofs.laws.rounded_is_half_up.Goals as goal

pub returns : goal.returns
returns c = rounded_half_up
