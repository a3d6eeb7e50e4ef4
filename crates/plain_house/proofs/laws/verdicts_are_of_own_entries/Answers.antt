use Rattle.plain_house.proofs.OwnVerdict.{verdicts_of_own}
use Rattle.plain_house.proofs.laws.verdicts_are_of_own_entries.Goals as goal

pub returns : goal.returns
returns c = verdicts_of_own c.books_are_of_own_entries.ensures c.accounts_are_of_own_entries.ensures
