use Rattle.plain_house.proofs.LegalEntryLemmas.{accounts_begin_legally}
use Rattle.plain_house.proofs.entry_laws.legal_accounts_begin_legally.Goals as goal

pub returns : goal.returns
returns c = accounts_begin_legally
