use Rattle.line_streams.proofs.RequestIdLemmas.{apart}
use Rattle.line_streams.proofs.laws.used_ids_tell_lines_apart.Goals as goal

pub returns : goal.returns
returns c = apart
