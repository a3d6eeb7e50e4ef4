use Rattle.plain_house.proofs.ToldLemmas.{are_short}
use Rattle.plain_house.proofs.laws.replies_are_short.Goals as goal

pub returns : goal.returns
returns c = are_short c.statements_are_short.ensures
