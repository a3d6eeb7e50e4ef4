use Rattle.plain_house.proofs.ToldLemmas.{tell_events}
use Rattle.plain_house.proofs.laws.replies_tell_events.Goals as goal

pub returns : goal.returns
returns c = tell_events
