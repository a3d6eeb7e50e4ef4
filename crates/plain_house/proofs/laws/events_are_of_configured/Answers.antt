use Rattle.plain_house.proofs.EventLemmas.{of_configured}
use Rattle.plain_house.proofs.laws.events_are_of_configured.Goals as goal

pub returns : goal.returns
returns c = of_configured c.commands_have_parties.ensures
