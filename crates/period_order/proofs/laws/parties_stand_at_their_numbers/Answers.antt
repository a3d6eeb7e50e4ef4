use Rattle.period_order.proofs.LawLemmas.{stand_at_numbers}
use Rattle.period_order.proofs.laws.parties_stand_at_their_numbers.Goals as goal

pub returns : goal.returns
returns c = stand_at_numbers
