use Rattle.line_streams.proofs.InForceLemmas.{keep_to_theirs}
use Rattle.line_streams.proofs.laws.added_events_keep_to_their_configuration.Goals as goal

pub returns : goal.returns
returns c = keep_to_theirs c.posts_are_checked.ensures c.admitted_pass_their_tests.ensures
