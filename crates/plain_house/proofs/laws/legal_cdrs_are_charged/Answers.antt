use Rattle.plain_house.proofs.ChargeLemmas.{cdrs_are_charged}
use Rattle.plain_house.proofs.laws.legal_cdrs_are_charged.Goals as goal

pub returns : goal.returns
returns c = cdrs_are_charged c.posts_are_checked.ensures
