-- The platform whose name is written as it is asked for.
use Rattle.std.proofs.Common.{◌≡◌, ◌∙◌, ℕ, zero, suc, ◌<◌, Bool, true, false, cond, List, [], ◌∷◌, length, get_or, Option, Some, refl, sym, ap, true≢false, arith}
use Rattle.std.specs.Prelude.{find, not, nat_eq}
use Rattle.std.specs.Cmp.Lexicographic.{pointwise, other_text}
use Rattle.std.specs.List.{list_any}
use Rattle.std.proofs.lemmas.Bool.{and_parts}
use Rattle.std.proofs.lemmas.List.Folds.{list_any_at}
use Rattle.ocpi_json.specs.Folded.{folded, same_folded}
use Rattle.ocpi_types.specs.declared.config.Platform.{Platform}
use Rattle.ocpi_types.specs.Config.{alike_platforms}
use Rattle.ocpi_types.specs.Different.{all_different}

same_self : (a b : List ℕ) → a ≡ b → same_folded a b ≡ true
same_self a b same = by_test (same_folded a b) refl
  where
    by_test : (told : Bool) → told ≡ pointwise nat_eq (folded a) (folded b) → told ≡ true
    by_test true e = refl
    by_test false e = absurd (other_text (folded a) (folded b) e (ap folded same))

not_true : (b : Bool) → (b ≡ true → ⊥) → b ≡ false
not_true true f = absurd (f refl)
not_true false f = refl

none_like : (b : Bool) → not b ≡ true → b ≡ true → ⊥
none_like true e is = true≢false (sym e)
none_like false e is = true≢false (sym is)

pub found_written : (platforms : List Platform) (i : ℕ) (x : Platform) (name : List ℕ) → all_different alike_platforms platforms ≡ true → i < length platforms → get_or platforms i x ≡ x → x.name ≡ name →
    find (λ platform. same_folded platform.name name) platforms ≡ Some x
found_written [] i x name different inside here same = absurd (omega (arith, inside))
found_written (p ∷ ps) zero x name different inside here same =
    ap (λ b. cond b (Some p) (find (λ platform. same_folded platform.name name) ps)) (same_self p.name name (ap (λ (q : Platform). q.name) here ∙ same)) ∙ ap (λ q. Some q) here
found_written (p ∷ ps) (suc i) x name different inside here same =
    let parts = and_parts (not (list_any (alike_platforms p) ps)) (all_different alike_platforms ps) different in
    let within : i < length ps = omega (arith, inside) in
    let other : same_folded p.name name ≡ false = not_true (same_folded p.name name)
    (λ e. none_like (list_any (alike_platforms p) ps) parts.0
    (list_any_at (alike_platforms p) ps i x within (ap (alike_platforms p) here ∙ ap (same_folded p.name) same ∙ e))) in
    ap (λ b. cond b (Some p) (find (λ platform. same_folded platform.name name) ps)) other ∙ found_written ps i x name parts.1 within here same
