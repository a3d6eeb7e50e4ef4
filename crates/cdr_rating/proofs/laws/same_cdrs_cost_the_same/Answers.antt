use Rattle.cdr_rating.proofs.SamePrices.{cost_the_same}
use Rattle.cdr_rating.proofs.laws.same_cdrs_cost_the_same.Goals as goal

pub returns : goal.returns
returns c = cost_the_same c.same_cdrs_are_equal_folded.ensures
