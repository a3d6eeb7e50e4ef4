use Rattle.period_order.proofs.ResolvesLemmas.{is_whole}
use Rattle.period_order.proofs.laws.resolving_is_whole.Goals as goal

pub returns : goal.returns
returns c = is_whole
