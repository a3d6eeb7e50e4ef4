use Rattle.house_core.proofs.ExclusionLemmas.{locks_exclude}
use Rattle.house_core.proofs.laws.locks_are_exclusive.Goals as goal

pub returns : goal.returns
returns c = locks_exclude c.house_laws.ensures c.empty_lists_are_legal.ensures
