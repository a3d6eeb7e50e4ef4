use Rattle.period_order.proofs.CollectingLemmas.{owes_alike}
use Rattle.period_order.proofs.laws.collected_owes_alike.Goals as goal

pub returns : goal.returns
returns c = owes_alike c.joined_lists_owe_alike.ensures c.sums_owe_alike.ensures
