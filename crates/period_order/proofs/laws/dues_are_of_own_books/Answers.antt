use Rattle.period_order.proofs.DuesLemmas.{own_due}
use Rattle.period_order.proofs.laws.dues_are_of_own_books.Goals as goal

pub returns : goal.returns
returns c = own_due
