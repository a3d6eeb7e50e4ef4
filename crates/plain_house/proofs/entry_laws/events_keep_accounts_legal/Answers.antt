use Rattle.plain_house.proofs.LegalEntryLemmas.{account_after}
use Rattle.plain_house.proofs.entry_laws.events_keep_accounts_legal.Goals as goal

pub returns : goal.returns
returns c = account_after
