use Rattle.plain_house.proofs.LegalEntryLemmas.{books_are_charged}
use Rattle.plain_house.proofs.entry_laws.legal_books_are_charged.Goals as goal

pub returns : goal.returns
returns c = books_are_charged c.posts_are_checked.ensures
