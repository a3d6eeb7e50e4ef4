use Rattle.plain_house.proofs.LegalEntryLemmas.{accounts_have_room}
use Rattle.plain_house.proofs.entry_laws.legal_accounts_have_room.Goals as goal

pub returns : goal.returns
returns c = accounts_have_room
