use Rattle.house_core.proofs.EndingLemmas.{calls_can_end}
use Rattle.house_core.proofs.laws.calls_can_end.Goals as goal

pub returns : goal.returns
returns c = calls_can_end c.house_laws.ensures c.empty_lists_are_legal.ensures
