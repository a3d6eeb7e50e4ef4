use Rattle.period_order.proofs.OutcomeLemmas.{are_verdicts}
use Rattle.period_order.proofs.laws.outcomes_are_verdicts.Goals as goal

pub returns : goal.returns
returns c = are_verdicts
