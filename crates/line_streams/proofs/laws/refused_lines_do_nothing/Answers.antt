use Rattle.line_streams.proofs.RefusedLemmas.{do_nothing}
use Rattle.line_streams.proofs.laws.refused_lines_do_nothing.Goals as goal

pub returns : goal.returns
returns c = do_nothing
