use Rattle.std.proofs.lemmas.Result.{IfOk-weaker}
use Rattle.line_causes.proofs.ExplainedLemmas.{answered_with}
use Rattle.line_causes.proofs.stream_with_causes.StreamWithCausesAnswerer.answer.Goals as goal

pub returns-clause-ok : goal.returns-clause-ok
returns-clause-ok c =
    IfOk-weaker c.explained.result _ _ (λ text told.
    answered_with _ _ c.args.line.now text.items _ told.0 c.in_ok-reply.ensures.ok (told.2 _ _ c.in_ok-reply.ensures.ok c.in_ok-reply.ensures.given) told.1) c.explained.ensures
