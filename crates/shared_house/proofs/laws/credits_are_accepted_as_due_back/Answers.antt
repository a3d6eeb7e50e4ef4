use Rattle.shared_house.proofs.PostLemmas.{accepted_as_due}
use Rattle.shared_house.proofs.laws.credits_are_accepted_as_due_back.Goals as goal

pub returns : goal.returns
returns c = accepted_as_due c.legal_books_are_taken_back.ensures
