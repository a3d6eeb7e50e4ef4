use Rattle.plain_house.proofs.BalanceLemmas.{balanced}
use Rattle.plain_house.proofs.laws.legal_positions_balance.Goals as goal

pub returns : goal.returns
returns c = balanced c.parties_are_different.ensures c.positions_balance.ensures c.posts_are_checked.ensures
