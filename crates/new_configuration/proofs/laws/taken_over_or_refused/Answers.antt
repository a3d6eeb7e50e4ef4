use Rattle.new_configuration.proofs.OutcomeLemmas as lemmas
use Rattle.new_configuration.proofs.laws.taken_over_or_refused.Goals as goal

pub returns : goal.returns
returns c = lemmas.taken_over_or_refused c.commands_are_determined.ensures c.asked_again_is_given.ensures c.holds_are_asked_again.ensures
