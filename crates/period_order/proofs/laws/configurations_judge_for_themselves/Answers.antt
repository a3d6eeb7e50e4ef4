use Rattle.period_order.proofs.JudgingLemmas.{judge_for_themselves}
use Rattle.period_order.proofs.laws.configurations_judge_for_themselves.Goals as goal

pub returns : goal.returns
returns c = judge_for_themselves
