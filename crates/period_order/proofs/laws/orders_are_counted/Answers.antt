use Rattle.period_order.proofs.LawLemmas.{are_counted}
use Rattle.period_order.proofs.laws.orders_are_counted.Goals as goal

pub returns : goal.returns
returns c = are_counted
