use Rattle.house_reports.proofs.balances.NetLemmas.{is_payable}
use Rattle.house_reports.proofs.balances.laws.owed_is_payable.Goals as goal

pub returns : goal.returns
returns c = is_payable
