use Rattle.std.proofs.Common.{inl, inr, ℕ, List, ◌++◌, ◌∙◌, ap}
use Rattle.std.specs.Prelude.{codes}
use Rattle.kept_house.proofs.RecordLemmas.{if_some_then}
use Rattle.kept_house.proofs.record.config_after.Goals as goal

pub returns-in-Some : goal.returns-in-Some
returns-in-Some c =
    let from = c.in_ok-rest.ensures in
    if_some_then c.before_brace.result c.before_brace.ensures (λ config is.
    (from.0, from.1, inr (from.2 ∙ ap (λ (l : List ℕ). from.0 ++ l) (c.in-Some.ensures ∙ ap (λ (l : List ℕ). codes "\",\"stream\":[\"configure\",\"request_id\"],\"config\":" ++ l) is))))

pub returns : goal.returns
returns c =
    let from = c.in_ok-rest.ensures in
    if_some_then c.before_brace-2.result c.before_brace-2.ensures (λ config is.
    (from.0, from.1, inl (from.2 ∙ ap (λ (l : List ℕ). from.0 ++ l) (c.in_ok-after.ensures ∙ ap (λ (l : List ℕ). codes "\",\"config\":" ++ l) is))))
