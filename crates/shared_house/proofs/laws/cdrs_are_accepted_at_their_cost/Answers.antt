use Rattle.shared_house.proofs.PostLemmas.{accepted_at_cost}
use Rattle.shared_house.proofs.laws.cdrs_are_accepted_at_their_cost.Goals as goal

pub returns : goal.returns
returns c = accepted_at_cost
