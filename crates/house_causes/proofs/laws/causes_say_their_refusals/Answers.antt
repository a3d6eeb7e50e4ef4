use Rattle.house_causes.proofs.SaidLemmas.{causes_say}
use Rattle.house_causes.proofs.laws.causes_say_their_refusals.Goals as goal

pub returns : goal.returns
returns c = causes_say
