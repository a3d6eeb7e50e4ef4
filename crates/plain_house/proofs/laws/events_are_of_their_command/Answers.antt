use Rattle.plain_house.proofs.EventLemmas.{of_their_command}
use Rattle.plain_house.proofs.laws.events_are_of_their_command.Goals as goal

pub returns : goal.returns
returns c = of_their_command
