use Rattle.shared_house.proofs.AnswerLemmas.{closes_are_balanced}
use Rattle.shared_house.proofs.laws.closes_balance.Goals as goal

pub returns : goal.returns
returns c = closes_are_balanced c.net_positions_are_balanced.ensures c.parties_are_different.ensures
