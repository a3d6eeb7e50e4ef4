use Rattle.plain_house.proofs.ToldLemmas.{verdicts_are_told}
use Rattle.plain_house.proofs.laws.verdicts_are_told.Goals as goal

pub returns : goal.returns
returns c = verdicts_are_told
