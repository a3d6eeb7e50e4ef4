use Rattle.input_reports.proofs.explain_cost.SameSums.{rows_add_up_lem}
use Rattle.input_reports.proofs.explain_cost.laws.rows_add_up.Goals as goal

pub returns : goal.returns
returns c = rows_add_up_lem
