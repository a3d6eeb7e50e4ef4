-- Lines answered with causes, one after another.
use Rattle.std.specs.Prelude.{ℕ, List, [], ◌∷◌, ◌++◌}
use Rattle.std.proofs.Common.{sym, ap, subst, ◌∙◌, append_assoc}
use Rattle.line_streams.specs.State.{StreamState}
use Rattle.line_causes.specs.AnswersWithCauses.{AreAnsweredWithCauses}

pub more_with_causes : (a b c : StreamState) (ls ms : List (List ℕ)) (t u : List ℕ) → AreAnsweredWithCauses a ls t b → AreAnsweredWithCauses b ms u c → AreAnsweredWithCauses a (ls ++ ms) (t ++ u) c
more_with_causes a b c [] ms t u h k =
    subst (λ (x : List ℕ). AreAnsweredWithCauses a ms x c) (ap (λ (x : List ℕ). x ++ u) (sym h.0)) (subst (λ (s : StreamState). AreAnsweredWithCauses s ms u c) h.1 k)
more_with_causes a b c (l ∷ ls) ms t u h k = record {
  one = h.one;
  others = h.others ++ u;
  middle = h.middle;
  text_is = ap (λ (x : List ℕ). x ++ u) h.text_is ∙ append_assoc h.one h.others u;
  first = h.first;
  rest = more_with_causes h.middle b c ls ms h.others u h.rest k;
}
