use Rattle.new_configuration.proofs.LooseLemmas.{limits_are_highest}
use Rattle.new_configuration.proofs.laws.loosened_limits_are_highest.Goals as goal

pub returns : goal.returns
returns c = limits_are_highest
