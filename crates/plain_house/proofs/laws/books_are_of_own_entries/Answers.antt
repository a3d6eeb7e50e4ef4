use Rattle.plain_house.proofs.OwnBook.{books_of_own}
use Rattle.plain_house.proofs.laws.books_are_of_own_entries.Goals as goal

pub returns : goal.returns
returns c = books_of_own
