use Rattle.plain_house.proofs.LegalEntryLemmas.{books_are_taken_back}
use Rattle.plain_house.proofs.entry_laws.legal_books_are_taken_back.Goals as goal

pub returns : goal.returns
returns c = books_are_taken_back c.posts_are_checked.ensures
