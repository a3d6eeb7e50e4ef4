-- What finds its place without memory, where one call changes and one lock.
use Rattle.std.proofs.Common.{◌≡◌, ◌≢◌, ℕ, List, refl, sym, ap, subst, ◌∙◌, Option, None, Some, slice_get, slice_set, ⊎_elim}
use Rattle.std.specs.Option.{option_and_then}
use Rattle.std.proofs.lemmas.Bool.{cases_eq}
use Rattle.std.proofs.lemmas.Option.{none-some, same_Some}
use Rattle.house_core.specs.declared.running_call.RunningCall.{RunningCall}
use Rattle.house_core.specs.Inner.Ready.{AreReady}
use Rattle.house_core.specs.Inner.Shown.{changed_lock, changed_there}
use Rattle.house_core.proofs.Wholes.{get-set_other, get-set_same}

module _ {L : Type 0} (held : RunningCall → Option ℕ) (IsReady : RunningCall → L → Type 0) (calls : List RunningCall) (locks : List L) (are : AreReady held IsReady calls locks) where
  -- a lock that changes in what doesn't count
  pub ready_at : (at : ℕ) (lock new : L) → slice_get locks at ≡ Some lock → ((call : RunningCall) → IsReady call lock → IsReady call new) → AreReady held IsReady calls (slice_set locks at new)
  ready_at at lock new here keeps n j call other there holds its = ⊎_elim
      (λ (same : j ≡ at).
      let is : new ≡ other = same_Some new other (sym (get-set_same locks at new lock here) ∙ ap (slice_get (slice_set locks at new)) (sym same) ∙ its) in
      subst (IsReady call) is (keeps call (are n j call lock there holds (ap (slice_get locks) same ∙ here))))
      (λ (apart : j ≢ at). are n j call other there holds (sym (get-set_other locks at j new apart) ∙ its))
      (cases_eq j at)

  pub ready_changed : (change : L → L) → ((call : RunningCall) (lock : L) → IsReady call lock → IsReady call (change lock)) → (at : Option ℕ) → AreReady held IsReady calls (changed_lock change locks at)
  ready_changed change keeps None = are
  ready_changed change keeps (Some at) = by (slice_get locks at) refl
    where
      by : (o : Option L) → slice_get locks at ≡ o → AreReady held IsReady calls (changed_there change locks at o)
      by None e = are
      by (Some lock) e = ready_at at lock (change lock) e (λ call. keeps call lock)

  module _ (number : ℕ) (call now : RunningCall) (is : slice_get calls number ≡ Some call) where
    -- a call that changes
    pub ready_call : ((at : ℕ) (lock : L) → held now ≡ Some at → slice_get locks at ≡ Some lock → IsReady now lock) → AreReady held IsReady (slice_set calls number now) locks
    ready_call mine n at other lock there holds here = ⊎_elim
        (λ (same : n ≡ number).
        let it : now ≡ other = same_Some now other (sym (get-set_same calls number now call is) ∙ ap (slice_get (slice_set calls number now)) (sym same) ∙ there) in
        subst (λ c. IsReady c lock) it (mine at lock (ap held it ∙ holds) here))
        (λ (apart : n ≢ number). are n at other lock (sym (get-set_other calls number n now apart) ∙ there) holds here)
        (cases_eq n number)

    -- a call that gives back a lock, which then has other entries
    pub ready_put : (holder : L → Option ℕ) → ((n : ℕ) (other : RunningCall) (at : ℕ) → slice_get calls n ≡ Some other → held other ≡ Some at → option_and_then holder (slice_get locks at) ≡ Some n)
        → (at : ℕ) (new : L) → held call ≡ Some at → held now ≡ None → AreReady held IsReady (slice_set calls number now) (slice_set locks at new)
    ready_put holder holding at new mine none n j other lock there holds here = ⊎_elim
        (λ (same : n ≡ number).
        let it : now ≡ other = same_Some now other (sym (get-set_same calls number now call is) ∙ ap (slice_get (slice_set calls number now)) (sym same) ∙ there) in
        absurd (none-some j (sym none ∙ ap held it ∙ holds)))
        (λ (apart : n ≢ number).
        let before : slice_get calls n ≡ Some other = sym (get-set_other calls number n now apart) ∙ there in
        let elsewhere : j ≢ at = λ e. apart (same_Some n number (sym (holding n other j before holds) ∙ ap (λ i. option_and_then holder (slice_get locks i)) e ∙ holding number call at is mine)) in
        are n j other lock before holds (sym (get-set_other locks at j new elsewhere) ∙ here))
        (cases_eq n number)
