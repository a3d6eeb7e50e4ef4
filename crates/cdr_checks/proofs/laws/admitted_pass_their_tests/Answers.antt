use Rattle.cdr_checks.proofs.TestsLemmas.{admitted_pass}
use Rattle.cdr_checks.proofs.laws.admitted_pass_their_tests.Goals as goal

pub returns : goal.returns
returns c = admitted_pass
