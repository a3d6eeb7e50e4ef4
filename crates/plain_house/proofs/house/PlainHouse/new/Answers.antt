use Rattle.plain_house.proofs.LegalLemmas.{legal_empty}
use Rattle.plain_house.proofs.house.PlainHouse.new.Goals as goal

pub invariant_of-result : goal.invariant_of-result
invariant_of-result c = rw c.new.ensures.items (legal_empty _)
