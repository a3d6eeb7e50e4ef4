use Rattle.std.proofs.Common.{take, drop, sym, ◌∙◌}
use Rattle.std.proofs.lemmas.List.{take-append-drop}
use Rattle.kept_answers.proofs.restart.send.Goals as goal

pub returns-in-Err-clause-told : goal.returns-in-Err-clause-told
returns-in-Err-clause-told g c =
    let text = c.as_slice.result.now in
    (take c.in-Err._sent text, c.in-Err.ensures.err, (drop c.in-Err._sent text, sym c.as_slice.ensures.value ∙ sym (take-append-drop c.in-Err._sent text)))

pub returns-clause-told : goal.returns-clause-told
returns-clause-told g c = (c.as_slice.result.now, c.in_default.ensures.ok, (c.as_slice.ensures.value, c.clear.ensures.items))
