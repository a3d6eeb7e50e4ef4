use Rattle.shared_house.proofs.CertifiedLemmas.{certified_is_unique}
use Rattle.shared_house.proofs.certifying.laws.certified_is_unique.Goals as goal

pub returns : goal.returns
returns c = certified_is_unique c.resolving_is_unique.ensures
