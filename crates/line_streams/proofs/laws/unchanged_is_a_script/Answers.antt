use Rattle.line_streams.proofs.StreamLemmas.{script}
use Rattle.line_streams.proofs.laws.unchanged_is_a_script.Goals as goal

pub returns : goal.returns
returns c = script
