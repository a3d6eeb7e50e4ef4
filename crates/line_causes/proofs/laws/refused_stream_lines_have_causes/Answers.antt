use Rattle.line_causes.proofs.RefusedStreamLemmas.{refused_stream_lines}
use Rattle.line_causes.proofs.laws.refused_stream_lines_have_causes.Goals as goal

pub returns : goal.returns
returns c = refused_stream_lines c.each_refusal_has_a_cause.ensures c.refusing_answers_have_causes.ensures
