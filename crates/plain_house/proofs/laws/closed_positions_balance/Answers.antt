use Rattle.plain_house.proofs.BalanceLemmas.{closed_balanced}
use Rattle.plain_house.proofs.laws.closed_positions_balance.Goals as goal

pub returns : goal.returns
returns c = closed_balanced c.parties_are_different.ensures c.net_positions_are_balanced.ensures c.posts_are_checked.ensures
