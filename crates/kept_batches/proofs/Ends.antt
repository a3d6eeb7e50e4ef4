-- A recovery at a line, and after the last one.
use Rattle.std.proofs.Common.{◌≡◌, ℕ, ◌+◌, List, [], ◌∷◌, Option, None, Some, drop, refl, sym, ◌∙◌, ap, subst}
use Rattle.std.specs.Prelude.{IfSome, is_some, true}
use mathlib.Core.Logic.{∥∥₁_elim, ∥∥₁_map}
use Rattle.std.proofs.Props.{props}
use Rattle.kept_batches.specs.Heads.{head}
use Rattle.kept_batches.specs.Verdict.{accepted, readable, verdict, kept_in, damage_in}
use Rattle.kept_batches.specs.declared.end.End.{End}
use Rattle.kept_batches.specs.Reading.{AreFoundAlike}
use Rattle.kept_batches.specs.Log.{IsLog}
use Rattle.kept_batches.specs.Inner.State.{IsState, IsRepaired, KeepsTheSame}
use Rattle.kept_batches.proofs.States.{same_state, end_verdict}
use Rattle.kept_batches.proofs.Moves.{lines_at, nothing_at}
use Rattle.kept_batches.proofs.Truncated.{log_of, line_left_of, none_left_of, undamaged_of}

pub record SomeEnd (found : Option End) (P : Type 0) : Type 0 where
  pub end : End
  pub is : found ≡ Some end
  pub holds : P

pub some_end : (found : Option End) {P : Type 0} → is_some found ≡ true → IfSome found (λ _. P) → SomeEnd found P
some_end (Some e) is holds = record { end = e; is = refl; holds = holds }
some_end None is holds = absurd (cc (is))

-- the state at an end, where no line is pending
pub ended : (e : End) (end : Option End) (file : List ℕ) (begin next stop : ℕ) (last : List ℕ) (count : ℕ) (items : List ℕ) → end ≡ Some e → next ≡ stop → ∥ IsState end file (begin + stop) last count (lines_at next stop items) ∥₁
    → ∥ IsState (Some e) file (begin + stop) last count [] ∥₁
ended e end file begin next stop last count items is same h =
    ∥∥₁_map h (same_state end (Some e) file file (begin + stop) (begin + stop) last count count (lines_at next stop items) [] (sym is) refl refl refl (sym (nothing_at items next stop same)))

pub record AtEnd (file last : List ℕ) (count : ℕ) : Type 0 where
  pub whole : damage_in file ≡ None
  pub none : drop count (readable (verdict file)) ≡ []
  pub last_is : last ≡ head (kept_in file)

pub at_end : (e : End) (file : List ℕ) (place : ℕ) (last : List ℕ) (count : ℕ) → ∥ IsState (Some e) file place last count [] ∥₁ → AtEnd file last count
at_end e file place last count h = record {
  whole = undamaged_of e file place last count [] h;
  none = none_left_of e file place last count h;
  last_is =
      let is_prop : IsProp (last ≡ head (kept_in file)) = hlevel props in
      ∥∥₁_elim h is_prop (λ s. s.at.last_is ∙ ap head (sym (ap accepted (end_verdict e file place last s.lines s.at))));
}

-- a pending line is the next one of the file
pub line_lent : (e : Option End) (file before after : List ℕ) (place : ℕ) (last : List ℕ) (count old new : ℕ) (line : List ℕ) (lines pending : List (List ℕ)) → ∥ IsState e file place last count pending ∥₁ → pending ≡ line ∷ lines
    → before ≡ file → after ≡ file → old ≡ count → new ≡ count + 1 → drop old (readable (verdict before)) ≡ line ∷ drop new (readable (verdict after))
line_lent e file before after place last count old new line lines pending h pending_is before_is after_is old_is new_is =
    ap (λ (n : ℕ). drop n (readable (verdict before))) old_is
    ∙ ap (λ (f : List ℕ). drop count (readable (verdict f))) before_is
    ∙ line_left_of e file place last count line lines (subst (λ (l : List (List ℕ)). ∥ IsState e file place last count l ∥₁) pending_is h)
    ∙ sym (ap (λ (n : ℕ). line ∷ drop n (readable (verdict after))) new_is ∙ ap (λ (f : List ℕ). line ∷ drop (count + 1) (readable (verdict f))) after_is)

-- a repair of what was read to its end
pub repaired : (e : End) (old new : List ℕ) (place : ℕ) (last : List ℕ) (count : ℕ) → IsRepaired e old place new → ∥ IsState (Some e) old place last count [] ∥₁ → IsLog new place last × AreFoundAlike new old
repaired e old new place last count repairs h =
    let is_prop : IsProp (AreFoundAlike new old) = hlevel props in
    (log_of new place last (∥∥₁_map h (λ s. (repairs last s.lines s.at).0)), ∥∥₁_elim h is_prop (λ s. (repairs last s.lines s.at).1))

pub left_alike : (e : End) (old : List ℕ) (place : ℕ) (last : List ℕ) (count : ℕ) (may_leave : List ℕ → Type 0) → KeepsTheSame e old place may_leave → ∥ IsState (Some e) old place last count [] ∥₁ → (c : List ℕ) → may_leave c → AreFoundAlike c old
left_alike e old place last count may_leave keeps h c left =
    let is_prop : IsProp (AreFoundAlike c old) = hlevel props in ∥∥₁_elim h is_prop (λ s. keeps last s.lines s.at c left)
