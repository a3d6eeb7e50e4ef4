use Rattle.house_core.proofs.EventLemmas.{steps_keep}
use Rattle.house_core.proofs.laws.steps_keep.Goals as goal

pub returns : goal.returns
returns c = steps_keep c.house_laws.ensures c.empty_lists_are_legal.ensures
