use Rattle.line_causes.proofs.CauseLemmas.{same_but_for_causes}
use Rattle.line_causes.proofs.laws.answers_are_the_same_but_for_causes.Goals as goal

pub returns : goal.returns
returns c = same_but_for_causes
