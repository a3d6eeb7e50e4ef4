use Rattle.netting_positions.proofs.AmongLemmas.{are_configured}
use Rattle.netting_positions.proofs.laws.parties_are_configured.Goals as goal

pub returns : goal.returns
returns c = are_configured
