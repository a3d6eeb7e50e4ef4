use Rattle.new_configuration.proofs.LooseJudges.{judges_wider}
use Rattle.new_configuration.proofs.laws.loosened_judges_wider.Goals as goal

pub returns : goal.returns
returns c = judges_wider
