use Rattle.plain_house.proofs.LegalEntryLemmas.{accounts_keep}
use Rattle.plain_house.proofs.entry_laws.legal_accounts_keep_limits.Goals as goal

pub returns : goal.returns
returns c = accounts_keep
