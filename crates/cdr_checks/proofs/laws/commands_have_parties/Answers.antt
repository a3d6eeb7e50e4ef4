use Rattle.cdr_checks.proofs.PartyLemmas.{commands_have_parties}
use Rattle.cdr_checks.proofs.laws.commands_have_parties.Goals as goal

pub returns : goal.returns
returns c = commands_have_parties
