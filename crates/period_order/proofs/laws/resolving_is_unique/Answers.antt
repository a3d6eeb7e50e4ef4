use Rattle.period_order.proofs.ResolvesLemmas.{is_unique}
use Rattle.period_order.proofs.laws.resolving_is_unique.Goals as goal

pub returns : goal.returns
returns c = is_unique
