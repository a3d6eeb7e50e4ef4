use Rattle.std.proofs.Common.{List, ℕ, [], ◌++◌, refl, sym, ap, ◌∙◌}
use Rattle.std.proofs.lemmas.List.{append-nil}
use Rattle.kept_answers.proofs.KeptLemmas.{ok_as}
use Rattle.kept_answers.proofs.restart.send_if_long.Goals as goal

pub returns-then-len-lt-BATCH_BYTES-clause-told : goal.returns-then-len-lt-BATCH_BYTES-clause-told
returns-then-len-lt-BATCH_BYTES-clause-told g c = ([], g.met.W.Sink.takes_none _, refl)

pub returns-clause-told : goal.returns-clause-told
returns-clause-told g c =
    let told = c.send.ensures.told in
    (told.0, told.1, ok_as _ c.send.result (λ both. sym both.0 ∙ sym (append-nil told.0) ∙ ap (λ (l : List ℕ). told.0 ++ l) (sym both.1)) told.2)
