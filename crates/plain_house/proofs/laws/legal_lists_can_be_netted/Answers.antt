use Rattle.plain_house.proofs.ListEntryLemmas.{lists_can_be_netted}
use Rattle.plain_house.proofs.laws.legal_lists_can_be_netted.Goals as goal

pub returns : goal.returns
returns c = lists_can_be_netted c.posts_are_checked.ensures
