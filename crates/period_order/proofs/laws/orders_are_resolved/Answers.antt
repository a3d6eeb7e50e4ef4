use Rattle.period_order.proofs.ResolvedLemmas.{are_resolved}
use Rattle.period_order.proofs.laws.orders_are_resolved.Goals as goal

pub returns : goal.returns
returns c = are_resolved c.orders_resolve.ensures c.resolving_is_unique.ensures
