use Rattle.plain_house.proofs.DatedLemmas.{are_dated}
use Rattle.plain_house.proofs.laws.entries_are_dated.Goals as goal

pub returns : goal.returns
returns c = are_dated
