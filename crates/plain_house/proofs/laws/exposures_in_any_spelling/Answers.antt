use Rattle.plain_house.proofs.SameScope.{in_any_spelling}
use Rattle.plain_house.proofs.laws.exposures_in_any_spelling.Goals as goal

pub returns : goal.returns
returns c = in_any_spelling
