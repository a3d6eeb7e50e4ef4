use Rattle.std.proofs.Common.{rules, ◌≡◌, ℕ, List, ◌++◌, ◌∙◌, sym, ap, ap₂, length}
use Rattle.std.proofs.lemmas.List.{take-append-drop}
use Rattle.kept_house.proofs.record.after.Goals as goal

pub returns : goal.returns
returns c =
    let same : c.in_ok-front.front.now ≡ c.args.start.now = search rules in
    let cases = c.in_ok-front.ensures.cases in
    sym (take-append-drop (length c.args.start.now) c.args.text.now)
    ∙ sym (ap₂ (λ (l r : List ℕ). l ++ r) cases.1 cases.2)
    ∙ ap (λ (l : List ℕ). l ++ c.in_ok-front.rest.now) same
