use Rattle.plain_house.proofs.SettlementLemmas.{settlements_end_debts}
use Rattle.plain_house.proofs.laws.settlements_end_their_debts.Goals as goal

pub returns : goal.returns
returns c = settlements_end_debts
