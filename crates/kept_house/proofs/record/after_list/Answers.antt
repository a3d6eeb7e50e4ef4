use Rattle.std.proofs.Common.{ℕ, List, ◌++◌, ◌∙◌, ap}
use Rattle.std.specs.Prelude.{codes}
use Rattle.kept_house.proofs.RecordLemmas.{if_some_then}
use Rattle.kept_house.proofs.record.after_list.Goals as goal

pub returns : goal.returns
returns c =
    if_some_then c.after-3.result c.after-3.ensures (λ rest is.
    c.in_ok-words.ensures ∙ ap (λ (l : List ℕ). codes "\",\"stream\":[" ++ l) (c.in_ok-end.ensures ∙ ap (λ (l : List ℕ). codes "\"configure\",\"request_id\"" ++ l) is))
