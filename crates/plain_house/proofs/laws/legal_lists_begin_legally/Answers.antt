use Rattle.plain_house.proofs.LegalLemmas.{legal_before}
use Rattle.plain_house.proofs.laws.legal_lists_begin_legally.Goals as goal

pub returns : goal.returns
returns c = legal_before
