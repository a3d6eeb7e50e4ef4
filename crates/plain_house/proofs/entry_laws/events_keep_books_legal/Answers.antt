use Rattle.plain_house.proofs.LegalEntryLemmas.{book_after}
use Rattle.plain_house.proofs.entry_laws.events_keep_books_legal.Goals as goal

pub returns : goal.returns
returns c = book_after
