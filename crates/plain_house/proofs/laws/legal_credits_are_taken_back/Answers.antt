use Rattle.plain_house.proofs.ChargeLemmas.{credits_are_taken_back}
use Rattle.plain_house.proofs.laws.legal_credits_are_taken_back.Goals as goal

pub returns : goal.returns
returns c = credits_are_taken_back c.posts_are_checked.ensures
