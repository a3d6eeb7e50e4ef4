use Rattle.netting_positions.proofs.DifferentLemmas.{parties_differ}
use Rattle.netting_positions.proofs.laws.parties_are_different.Goals as goal

pub returns : goal.returns
returns c = parties_differ
