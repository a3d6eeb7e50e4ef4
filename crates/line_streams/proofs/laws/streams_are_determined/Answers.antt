use Rattle.line_streams.proofs.StreamLemmas.{determined}
use Rattle.line_streams.proofs.laws.streams_are_determined.Goals as goal

pub returns : goal.returns
returns c = determined c.loosened_judges_wider.ensures c.taken_over_is_whole.ensures c.first_otherwise_is_unique.ensures
