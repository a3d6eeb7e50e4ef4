use Rattle.plain_house.proofs.FitLemmas.{replies_do}
use Rattle.plain_house.proofs.laws.replies_fit.Goals as goal

pub returns : goal.returns
returns c = replies_do c.replies_are_short.ensures
