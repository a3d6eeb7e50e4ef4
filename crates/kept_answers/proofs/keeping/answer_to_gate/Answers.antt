use Rattle.kept_answers.proofs.KeptLemmas.{no_ok}
use Rattle.kept_answers.proofs.keeping.answer_to_gate.Goals as goal

pub returns-in_err-answer_store-clause-told : goal.returns-in_err-answer_store-clause-told
returns-in_err-answer_store-clause-told g c =
    let told = c.in_err-answer_store.ensures.told in
    (told.0, told.1, λ clean. ((told.2 clean).0, no_ok _ c.from_residual.result c.from_residual.ensures.0))

pub returns-in_err-answer_store-clause-reads : goal.returns-in_err-answer_store-clause-reads
returns-in_err-answer_store-clause-reads g c = c.in_err-answer_store.ensures.reads
