use Rattle.plain_house.proofs.LegalEntryLemmas.{books_have_room}
use Rattle.plain_house.proofs.entry_laws.legal_books_have_room.Goals as goal

pub returns : goal.returns
returns c = books_have_room c.posts_are_checked.ensures
