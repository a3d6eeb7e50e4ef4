use Rattle.house_reports.proofs.balances.NetLemmas.{is_of_debts}
use Rattle.house_reports.proofs.balances.laws.net_is_of_debts.Goals as goal

pub returns : goal.returns
returns c = is_of_debts
