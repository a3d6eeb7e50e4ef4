use Rattle.house_reports.proofs.balances.SquareLemmas.{square}
use Rattle.house_reports.proofs.balances.laws.settlements_square.Goals as goal

pub returns : goal.returns
returns c = square
