use Rattle.line_causes.proofs.RefusedLemmas.{replies_name}
use Rattle.line_causes.proofs.laws.replies_name_refusals.Goals as goal

pub returns : goal.returns
returns c = replies_name
