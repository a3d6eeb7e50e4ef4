use Rattle.input_reports.proofs.explain_cost.DigitValues.{texts_read_back_lem}
use Rattle.input_reports.proofs.explain_cost.laws.texts_read_back.Goals as goal

pub returns : goal.returns
returns c = texts_read_back_lem
