use Rattle.plain_house.proofs.LegalEntryLemmas.{books_can_be_netted}
use Rattle.plain_house.proofs.entry_laws.legal_books_can_be_netted.Goals as goal

pub returns : goal.returns
returns c = books_can_be_netted c.posts_are_checked.ensures
