use Rattle.shared_house.proofs.QuietLemmas.{nothing_is_torn}
use Rattle.shared_house.proofs.laws.nothing_is_torn_without_events.Goals as goal

pub returns : goal.returns
returns c = nothing_is_torn c.replies_tell_events.ensures
