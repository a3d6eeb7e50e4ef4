use Rattle.line_streams.proofs.RequestIdLemmas.{alike}
use Rattle.line_streams.proofs.laws.repeats_are_answered_alike.Goals as goal

pub returns : goal.returns
returns c = alike
