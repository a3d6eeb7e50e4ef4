use Rattle.house_reports.proofs.balances.SquareLemmas.{rows_are_square}
use Rattle.house_reports.proofs.balances.laws.settled_rows_are_square.Goals as goal

pub returns : goal.returns
returns c = rows_are_square
