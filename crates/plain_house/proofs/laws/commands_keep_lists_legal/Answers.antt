use Rattle.plain_house.proofs.LegalLemmas.{legal_after}
use Rattle.plain_house.proofs.laws.commands_keep_lists_legal.Goals as goal

pub returns : goal.returns
returns c = legal_after
