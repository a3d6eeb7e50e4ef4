use Rattle.netting_positions.proofs.SameStatements.{statements_decided}
use Rattle.netting_positions.proofs.laws.sums_decide_statements.Goals as goal

pub returns : goal.returns
returns c = statements_decided
