use Rattle.line_causes.proofs.OwnCauseLemmas.{own_causes_are_causes}
use Rattle.line_causes.proofs.laws.own_causes_are_causes.Goals as goal

pub returns : goal.returns
returns c = own_causes_are_causes
