use Rattle.shared_house.proofs.CertifiedLemmas.{passes_see_their_events}
use Rattle.shared_house.proofs.certifying.laws.passes_see_their_events.Goals as goal

pub returns : goal.returns
returns c = passes_see_their_events
