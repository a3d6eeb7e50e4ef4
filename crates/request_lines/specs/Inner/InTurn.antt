-- Lines that a house answers in turn.
use Rattle.std.specs.Prelude.{◌≡◌, ℕ, List, [], ◌∷◌, ◌++◌, refl}
use Rattle.std.proofs.Common.{sym, ap, ◌∙◌, append_assoc}
use Rattle.ocpi_types.specs.declared.config.Config.{Config}
use Rattle.plain_house.specs.declared.event.Event.{Event}
use Rattle.request_lines.specs.Script.{answer_of, after, answers_to, list_after}

-- under one configuration these lines got this text, and led from these events to those
abbrev pub AnswersInTurn : Config → Config → List Event → List (List ℕ) → List ℕ → List Event → Type 0
AnswersInTurn config config' events lines text left = (config' ≡ config) × (text ≡ answers_to config events lines) × (left ≡ list_after config events lines)

pub answers_to-append : (config : Config) (events : List Event) (xs ys : List (List ℕ)) → answers_to config events (xs ++ ys) ≡ answers_to config events xs ++ answers_to config (list_after config events xs) ys
answers_to-append config events [] ys = refl
answers_to-append config events (x ∷ xs) ys =
    ap (λ (t : List ℕ). answer_of config events x ++ t) (answers_to-append config (after config events x) xs ys)
    ∙ sym (append_assoc (answer_of config events x) (answers_to config (after config events x) xs) (answers_to config (list_after config (after config events x) xs) ys))

pub list_after-append : (config : Config) (events : List Event) (xs ys : List (List ℕ)) → list_after config events (xs ++ ys) ≡ list_after config (list_after config events xs) ys
list_after-append config events [] ys = refl
list_after-append config events (x ∷ xs) ys = list_after-append config (after config events x) xs ys

pub in_turn_more : (f g h : Config) (a b c : List Event) (ls ms : List (List ℕ)) (t u : List ℕ) →
    AnswersInTurn f g a ls t b → AnswersInTurn g h b ms u c → AnswersInTurn f h a (ls ++ ms) (t ++ u) c
in_turn_more f g h a b c ls ms t u p q =
    let k : u ≡ answers_to f (list_after f a ls) ms = q.1 ∙ ap (λ (z : Config). answers_to z b ms) p.0 ∙ ap (λ (z : List Event). answers_to f z ms) p.2 in
    let l : c ≡ list_after f (list_after f a ls) ms = q.2 ∙ ap (λ (z : Config). list_after z b ms) p.0 ∙ ap (λ (z : List Event). list_after f z ms) p.2 in
    (q.0 ∙ p.0, ap (λ (x : List ℕ). x ++ u) p.1 ∙ ap (λ (y : List ℕ). answers_to f a ls ++ y) k ∙ sym (answers_to-append f a ls ms), l ∙ sym (list_after-append f a ls ms))
