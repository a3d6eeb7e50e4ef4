use Rattle.request_lines.specs.AnswerText.{opening}
use Rattle.request_lines.proofs.AddsLemmas.{adds_more}
use Rattle.request_lines.proofs.answers.put_opening.Goals as goal

pub returns : goal.returns
unfolding opening
returns c = adds_more c.put_text.result _ _ _ _ _ c.in_ok-put_number.ensures.tokens_are c.put_number.ensures.before_is c.put_text.ensures
