use Rattle.line_causes.proofs.OwnCauseLemmas.{have_causes}
use Rattle.line_causes.proofs.laws.first_twelve_have_causes.Goals as goal

pub returns : goal.returns
returns c = have_causes c.each_refusal_has_a_cause.ensures
