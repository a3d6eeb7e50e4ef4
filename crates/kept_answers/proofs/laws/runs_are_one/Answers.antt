use Rattle.kept_answers.proofs.RunLemmas.{runs_are_one}
use Rattle.kept_answers.proofs.laws.runs_are_one.Goals as goal

pub returns : goal.returns
returns g c = runs_are_one g.A.Answerer.rule
