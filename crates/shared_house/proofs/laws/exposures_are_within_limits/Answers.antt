use Rattle.shared_house.proofs.AnswerLemmas.{exposures_within}
use Rattle.shared_house.proofs.laws.exposures_are_within_limits.Goals as goal

pub returns : goal.returns
returns c = exposures_within c.legal_accounts_keep_limits.ensures
