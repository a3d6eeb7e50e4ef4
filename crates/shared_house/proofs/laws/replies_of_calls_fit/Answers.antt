use Rattle.shared_house.proofs.CallLemmas.{calls_fit}
use Rattle.shared_house.proofs.laws.replies_of_calls_fit.Goals as goal

pub returns : goal.returns
returns c = calls_fit c.legal_books_can_be_netted.ensures c.replies_are_short.ensures
