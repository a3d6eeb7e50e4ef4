-- How a recovery moves on in a file.
use Rattle.std.proofs.Common.{◌≡◌, ◌≢◌, ℕ, ◌+◌, ◌-◌, ◌<◌, ◌≤◌, Bool, true, false, List, [], ◌∷◌, Option, None, Some, length, take, drop, refl, sym, ◌∙◌, ap, subst, arith}
use Rattle.std.specs.Prelude.{IsTrue}
use mathlib.Core.Logic.{∥∥₁_map}
use Rattle.kept_batches.specs.Text.{lines_in, marked}
use Rattle.kept_batches.specs.File.{shut_mark, most_bytes}
use Rattle.kept_batches.specs.declared.end.End.{End}
use Rattle.kept_batches.specs.declared.end.End.TheVariants.{Whole, Torn, Unmarked, Unbegun}
use Rattle.kept_batches.specs.Inner.Lines.{BeginsLine}
use Rattle.kept_batches.specs.Inner.Finding.{IsMarked, IsUnmarkedLast}
use Rattle.kept_batches.specs.Inner.Window.{IsWindow}
use Rattle.kept_batches.specs.Inner.State.{IsState}
use Rattle.kept_batches.proofs.States.{same_state, none_pending, window_at, batch_pending, marked_state, unmarked_state, whole_state, torn_state, unbegun_state, one_lent}
use Rattle.kept_batches.proofs.Lending.{lent_is}

-- the lines that are pending between two places of a window
abbrev pub lines_at : ℕ → ℕ → List ℕ → List (List ℕ)
lines_at next stop items = lines_in (take (stop - next) (drop next items))

pub nothing_at : (items : List ℕ) (next stop : ℕ) → next ≡ stop → lines_at next stop items ≡ []
nothing_at items next stop same = ap lines_in (none_pending items next stop same)

-- to another window
pub moved_state : (e f : Option End) (file other : List ℕ) (begin next stop : ℕ) (last : List ℕ) (count : ℕ) (items new : List ℕ) → next ≡ stop → f ≡ e → other ≡ file → ∥ IsState e file (begin + stop) last count (lines_at next stop items) ∥₁
    → ∥ IsState f other (begin + stop + 0) last count (lines_at 0 0 new) ∥₁
moved_state e f file other begin next stop last count items new same end_is file_is h =
    ∥∥₁_map h
    (same_state e f file other (begin + stop) (begin + stop + 0) last count count (lines_at next stop items) (lines_at 0 0 new) end_is file_is (let place : begin + stop + 0 ≡ begin + stop = omega arith in place) refl
    (nothing_at new 0 0 refl ∙ sym (nothing_at items next stop same)))

-- at the start of a window
pub at_start : (e : Option End) (file : List ℕ) (begin next stop : ℕ) (last : List ℕ) (count : ℕ) (items : List ℕ) → e ≡ None → next ≡ 0 → stop ≡ 0 → ∥ IsState e file (begin + stop) last count (lines_at next stop items) ∥₁
    → ∥ IsState None file begin last count [] ∥₁
at_start e file begin next stop last count items none first second h =
    ∥∥₁_map h
    (same_state e None file file (begin + stop) begin last count count (lines_at next stop items) [] (sym none) refl (let place : begin ≡ begin + stop = omega (arith, second) in place) refl
    (sym (nothing_at items next stop (first ∙ sym second))))

pub from_start : (e : Option End) (file : List ℕ) (begin next stop : ℕ) (last : List ℕ) (count : ℕ) (items : List ℕ) → next ≡ 0 → stop ≡ 0 → ∥ IsState e file begin last count [] ∥₁
    → ∥ IsState e file (begin + stop) last count (lines_at next stop items) ∥₁
from_start e file begin next stop last count items first second h =
    ∥∥₁_map h
    (same_state e e file file begin (begin + stop) last count count [] (lines_at next stop items) refl refl (let place : begin + stop ≡ begin = omega (arith, second) in place) refl (nothing_at items next stop (first ∙ sym second)))

-- over a batch
pub taken_state : (e : Option End) (file items : List ℕ) (begin next stop : ℕ) (last : List ℕ) (count size : ℕ) (head : List ℕ) → e ≡ None → next ≡ stop → stop ≤ length items → IsWindow file begin items → IsMarked last (drop stop items) size head
    → ∥ IsState e file (begin + stop) last count (lines_at next stop items) ∥₁
    → ∥ IsState e file (begin + (stop + 79 + size)) head count (lines_at (stop + 79) (stop + 79 + size) items) ∥₁
taken_state e file items begin next stop last count size head none same low window m h =
    ∥∥₁_map h
    (λ s.
    same_state None e file file (begin + stop + (79 + size)) (begin + (stop + 79 + size)) head count count (lines_in (take size (drop 75 (drop 4 (drop stop items))))) (lines_at (stop + 79) (stop + 79 + size) items) none refl
    (let place : begin + (stop + 79 + size) ≡ begin + stop + (79 + size) = omega arith in place) refl (ap lines_in (batch_pending items stop size))
    (marked_state file (begin + stop) last count (drop stop items) size head
    (same_state e None file file (begin + stop) (begin + stop) last count count (lines_at next stop items) [] (sym none) refl refl refl (sym (nothing_at items next stop same)) s)
    (window_at file items begin stop window low) m))

pub taken_pending : (items : List ℕ) (stop size : ℕ) (last head : List ℕ) → IsMarked last (drop stop items) size head
    → take ((stop + 79 + size) - (stop + 79)) (drop (stop + 79) items) ≡ marked (lines_at (stop + 79) (stop + 79 + size) items)
taken_pending items stop size last head m =
    let same = batch_pending items stop size in same ∙ m.lines.are ∙ ap (λ (l : List ℕ). marked (lines_in l)) (sym same)

-- over the last batch, whose mark is neither open nor shut
pub unmarked_taken : (e : Option End) (file items : List ℕ) (begin next stop : ℕ) (last : List ℕ) (count size : ℕ) (head : List ℕ) (is_shut : Bool) → e ≡ None → next ≡ 0 → stop ≡ 0 → items ≡ take 16_777_300 (drop begin file)
    → IsUnmarkedLast last items size head → (is_shut ≡ true → take 2 items ≡ 45 ∷ 45 ∷ []) → (is_shut ≡ false → take 2 items ≢ 45 ∷ 45 ∷ [])
    → ∥ IsState e file (begin + stop) last count (lines_at next stop items) ∥₁
    → ∥ IsState (Some (Unmarked begin is_shut)) file (begin + (79 + size)) head count (lines_at 79 (79 + size) items) ∥₁
unmarked_taken e file items begin next stop last count size head is_shut none first second window m if_shut if_not h =
    ∥∥₁_map (at_start e file begin next stop last count items none first second h)
    (λ s.
    same_state (Some (Unmarked begin is_shut)) (Some (Unmarked begin is_shut)) file file (begin + (79 + size)) (begin + (79 + size)) head count count (lines_in (take size (drop 75 (drop 4 items)))) (lines_at 79 (79 + size) items) refl refl refl refl
    (ap lines_in (batch_pending items 0 size)) (unmarked_state file begin last count items size head is_shut s window m if_shut if_not))

pub unmarked_pending : (items : List ℕ) (size : ℕ) (last head : List ℕ) → IsUnmarkedLast last items size head → take ((79 + size) - 79) (drop 79 items) ≡ marked (lines_at 79 (79 + size) items)
unmarked_pending items size last head m =
    let same = batch_pending items 0 size in same ∙ m.lines.are ∙ ap (λ (l : List ℕ). marked (lines_in l)) (sym same)

-- to an end
module _ (e : Option End) (file items : List ℕ) (begin next stop : ℕ) (last : List ℕ) (count : ℕ) (none : e ≡ None) (first : next ≡ 0) (second : stop ≡ 0) (window : items ≡ take 16_777_300 (drop begin file))
    (h : ∥ IsState e file (begin + stop) last count (lines_at next stop items) ∥₁) where
  pub to_whole : take 4 items ≡ shut_mark → length items ≡ 4 → ∥ IsState (Some Whole) file (begin + stop) last count (lines_at next stop items) ∥₁
  to_whole shut four =
      from_start (Some Whole) file begin next stop last count items first second
      (∥∥₁_map (at_start e file begin next stop last count items none first second h) (λ s. whole_state file begin last count s items window shut four))

  pub to_torn : take 4 items ≡ shut_mark → 4 < length items → length items ≤ 83 + most_bytes → ∥ IsState (Some Torn) file (begin + stop) last count (lines_at next stop items) ∥₁
  to_torn shut long few =
      from_start (Some Torn) file begin next stop last count items first second
      (∥∥₁_map (at_start e file begin next stop last count items none first second h) (λ s. torn_state file begin last count s items window shut long few))

  pub to_unbegun : begin ≡ 0 → length items ≤ 4 → items ≢ shut_mark → ∥ IsState (Some Unbegun) file (begin + stop) last count (lines_at next stop items) ∥₁
  to_unbegun start few not_shut =
      from_start (Some Unbegun) file begin next stop last count items first second
      (∥∥₁_map (at_start e file begin next stop last count items none first second h) (λ s. unbegun_state file begin last count s items window start few not_shut))

-- over a line
pub lent_state : (e : Option End) (file items : List ℕ) (place next stop : ℕ) (last : List ℕ) (count size : ℕ) → BeginsLine (take (stop - next) (drop next items)) size → ∥ IsState e file place last count (lines_at next stop items) ∥₁
    → ∥ IsState e file place last (count + 1) (lines_at (next + 1 + size + 1) stop items) ∥₁
lent_state e file items place next stop last count size b h =
    ∥∥₁_map h (λ s.
    one_lent e file place last count (take ((next + 1 + size) - (next + 1)) (drop (next + 1) items)) (lines_at (next + 1 + size + 1) stop items)
    (subst (λ (l : List (List ℕ)). IsState e file place last count l) (lent_is items next stop size b) s))

-- what a test says
pub if_true : (b : Bool) {P : Type 0} → (IsTrue b → P) → b ≡ true → P
if_true b f e = f e

pub if_false : (b : Bool) {P : Type 0} → (P → IsTrue b) → b ≡ false → P → ⊥
if_false b f e p = let yes = f p in absurd (cc (yes, e))
