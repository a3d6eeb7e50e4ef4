use Rattle.line_streams.proofs.RequestIdLemmas.{add_nothing}
use Rattle.line_streams.proofs.laws.repeats_add_nothing.Goals as goal

pub returns : goal.returns
returns c = add_nothing
