use Rattle.line_streams.proofs.EveryLineLemmas.{every_line}
use Rattle.line_streams.proofs.laws.streams_answer_every_line.Goals as goal

pub returns : goal.returns
returns c = every_line c.taken_over_or_refused.ensures
