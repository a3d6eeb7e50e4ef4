use Rattle.std.proofs.Common.{[], take, drop, refl, sym, ◌∙◌}
use Rattle.std.proofs.lemmas.List.{take-append-drop}
use Rattle.kept_answers.specs.Keeping.{greeting}
use Rattle.kept_answers.proofs.KeptLemmas.{at_err}
use Rattle.kept_answers.proofs.keeping.greet.Goals as goal

pub returns-in_err-text-clause-told : goal.returns-in_err-text-clause-told
returns-in_err-text-clause-told g c = ([], g.met.W.Sink.takes_none _, λ first lines held. at_err _ c.from_residual.result c.from_residual.ensures.0 (greeting first lines, refl))

pub returns-in-Err-clause-told : goal.returns-in-Err-clause-told
returns-in-Err-clause-told g c =
    let text = c.as_bytes.result.now in
    (take c.in-Err._sent text, c.in-Err.ensures.err, λ first lines held. (drop c.in-Err._sent text, sym (c.in_ok-text.ensures first lines held) ∙ sym c.as_bytes.ensures.value ∙ sym (take-append-drop c.in-Err._sent text)))

pub returns-clause-told : goal.returns-clause-told
returns-clause-told g c = (c.as_bytes.result.now, c.in_default.ensures.ok, λ first lines held. c.as_bytes.ensures.value ∙ c.in_ok-text.ensures first lines held)
