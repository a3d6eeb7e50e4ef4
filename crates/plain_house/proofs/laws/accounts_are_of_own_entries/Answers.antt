use Rattle.plain_house.proofs.OwnAccount.{accounts_of_own}
use Rattle.plain_house.proofs.laws.accounts_are_of_own_entries.Goals as goal

pub returns : goal.returns
returns c = accounts_of_own c.legal_cdrs_are_charged.ensures c.legal_credits_are_taken_back.ensures
