use Rattle.period_order.proofs.ResolvedLemmas.{orders_do}
use Rattle.period_order.proofs.laws.orders_resolve.Goals as goal

pub returns : goal.returns
returns c = orders_do c.events_are_of_configured.ensures
