use Rattle.plain_house.proofs.ListEntryLemmas.{lists_keep}
use Rattle.plain_house.proofs.laws.legal_lists_keep_limits.Goals as goal

pub returns : goal.returns
returns c = lists_keep
