use Rattle.plain_house.proofs.LegalEntryLemmas.{empty_legal}
use Rattle.plain_house.proofs.entry_laws.empty_entries_are_legal.Goals as goal

pub returns : goal.returns
returns c = empty_legal
