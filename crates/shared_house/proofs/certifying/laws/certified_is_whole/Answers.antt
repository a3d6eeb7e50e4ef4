use Rattle.shared_house.proofs.CertifiedLemmas.{certified_is_whole}
use Rattle.shared_house.proofs.certifying.laws.certified_is_whole.Goals as goal

pub returns : goal.returns
returns c = certified_is_whole c.resolving_is_unique.ensures
