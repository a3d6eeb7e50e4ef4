use Rattle.line_causes.proofs.RefusedLinesLemmas.{refused_lines}
use Rattle.line_causes.proofs.laws.refused_lines_have_causes.Goals as goal

pub returns : goal.returns
returns c = refused_lines c.each_refusal_has_a_cause.ensures c.refusing_answers_have_causes.ensures
