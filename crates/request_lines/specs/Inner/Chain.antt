-- Lines that are answered one by one.
use Rattle.std.specs.Prelude.{◌≡◌, ℕ, List, [], ◌∷◌, ◌++◌}
use Rattle.std.proofs.Common.{ap, ◌∙◌, append_assoc}
use Rattle.request_lines.specs.Answering.{Rule}

-- each line has an answer of its own, on the way from one state to the next, and these are the text
abbrev pub Chain : {A : Type 0} → Rule A → A → List (List ℕ) → List ℕ → A → Type 0
Chain rule start [] text now = (text ≡ []) × (now ≡ start)
Chain {A = A} rule start (line ∷ lines) text now =
    (middle : A) × (answer : List ℕ) × (others : List ℕ)
    × rule.answers start (line ∷ []) answer middle × (text ≡ answer ++ others) × Chain rule middle lines others now

pub chain_more : {A : Type 0} (rule : Rule A) (a b c : A) (ls ms : List (List ℕ)) (t u : List ℕ) → Chain rule a ls t b → Chain rule b ms u c → Chain rule a (ls ++ ms) (t ++ u) c
chain_more rule a b c [] ms t u h k = rw (h.0, ← h.1) k
chain_more rule a b c (line ∷ ls) ms t u h k =
    (h.0, h.1, h.2 ++ u, h.3, ap (λ (xs : List ℕ). xs ++ u) h.4 ∙ append_assoc h.1 h.2 u, chain_more rule h.0 b c ls ms h.2 u h.5 k)

-- the rule by which lines are answered one by one
abbrev pub chain_rule : {A : Type 0} → Rule A → Rule A
chain_rule rule = record { answers = Chain rule; gives_up = rule.gives_up }
