use Rattle.kept_answers.proofs.ScriptLemmas.{scripts_are_determined}
use Rattle.kept_answers.proofs.laws.scripts_are_determined.Goals as goal

pub returns : goal.returns
returns c = scripts_are_determined
