use Rattle.kept_answers.proofs.KeptLemmas.{both_ok}
use Rattle.kept_answers.proofs.keeping.answer_log.Goals as goal

pub returns-clause-told : goal.returns-clause-told
returns-clause-told g c =
    let told = c.answer_new_lines-result.ensures.told in
    (told.0, told.1, told.2, told.3, told.4, told.5, told.6, told.7, told.8, both_ok _ c.answer_new_lines-result.result (λ all settled. (all.0, all.1, all.2, all.3, settled.durable)) told.9 c.answer_new_lines-result.ensures.settled)
