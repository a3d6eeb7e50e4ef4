use Rattle.cdr_checks.proofs.TestsLemmas.{refused_first}
use Rattle.cdr_checks.proofs.laws.refused_by_the_first.Goals as goal

pub returns : goal.returns
returns c = refused_first
