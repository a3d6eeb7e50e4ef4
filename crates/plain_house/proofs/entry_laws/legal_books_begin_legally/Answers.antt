use Rattle.plain_house.proofs.LegalEntryLemmas.{books_begin_legally}
use Rattle.plain_house.proofs.entry_laws.legal_books_begin_legally.Goals as goal

pub returns : goal.returns
returns c = books_begin_legally
