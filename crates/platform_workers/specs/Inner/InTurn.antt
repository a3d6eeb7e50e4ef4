-- Lines that a pass answers in turn.
use Rattle.std.specs.Prelude.{ℕ, List, [], ◌∷◌, ◌++◌}
use Rattle.std.proofs.Common.{ap, ◌∙◌, append_assoc}
use Rattle.ocpi_types.specs.declared.config.Config.{Config}
use Rattle.shared_house.specs.PassView.{PassView}
use Rattle.platform_workers.specs.Platforms.{LinesAnswered}

pub lines_answered_more : (config : Config) (a b c : PassView) (ls ms : List (List ℕ)) (t u : List ℕ) →
    LinesAnswered config a ls t b → LinesAnswered config b ms u c → LinesAnswered config a (ls ++ ms) (t ++ u) c
lines_answered_more config a b c [] ms t u h k = rw h.0 (rw h.1 at k)
lines_answered_more config a b c (l ∷ ls) ms t u h k =
    (h.0, h.1, h.2 ++ u, h.3, lines_answered_more config h.1 b c ls ms h.2 u h.4 k, ap (λ (x : List ℕ). x ++ u) h.5 ∙ append_assoc h.0 h.2 u)
