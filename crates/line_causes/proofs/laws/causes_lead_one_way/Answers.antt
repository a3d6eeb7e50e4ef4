use Rattle.line_causes.proofs.OwnCauseLemmas.{one_way}
use Rattle.line_causes.proofs.laws.causes_lead_one_way.Goals as goal

pub returns : goal.returns
returns c = one_way c.streams_are_determined.ensures
