use Rattle.plain_house.proofs.LegalLemmas.{legal_empty}
use Rattle.plain_house.proofs.laws.empty_lists_are_legal.Goals as goal

pub returns : goal.returns
returns c = legal_empty
