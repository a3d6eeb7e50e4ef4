use Rattle.kept_answers.proofs.RunLemmas.{kept_is_a_run}
use Rattle.kept_answers.proofs.laws.kept_is_a_run.Goals as goal

pub returns : goal.returns
returns g c = kept_is_a_run g.A.Answerer.rule g.D.Disk.may_leave
