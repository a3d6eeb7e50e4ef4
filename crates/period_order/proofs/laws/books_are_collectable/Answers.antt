use Rattle.period_order.proofs.LawLemmas.{collectable}
use Rattle.period_order.proofs.laws.books_are_collectable.Goals as goal

pub returns : goal.returns
returns c = collectable c.legal_lists_can_be_netted.ensures c.operators_owe_alike.ensures
