use Rattle.shared_house.proofs.BoundLemmas.{are_bounded}
use Rattle.shared_house.proofs.laws.dues_are_bounded.Goals as goal

pub returns : goal.returns
returns c = are_bounded c.legal_books_are_charged.ensures c.legal_books_are_taken_back.ensures c.legal_books_have_room.ensures
