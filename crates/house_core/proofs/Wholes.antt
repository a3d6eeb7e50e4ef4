-- Locked lists with what their holders still have to put, where one call and one lock change.
use Rattle.std.proofs.Common.{◌≡◌, ◌≢◌, ℕ, zero, suc, List, [], ◌∷◌, ◌++◌, refl, sym, ap, ap₂, ◌∙◌, Option, None, Some, option_map, unwrap_or, append-nil, map, slice_get, slice_set, ⊎_elim}
use Rattle.std.specs.Option.{option_and_then, option_map_or}
use Rattle.std.proofs.lemmas.Bool.{cases_eq}
use Rattle.std.proofs.lemmas.Option.{none-some, same_Some, slice_get-map}
use Rattle.house_core.specs.declared.running_call.RunningCall.{RunningCall}
use Rattle.house_core.specs.Holders.{Agree, holder_at}
use Rattle.house_core.specs.Locks.{Lock}
use Rattle.period_order.specs.Kept.{with_added}
use Rattle.house_core.proofs.StepLemmas.{put_back}

-- ---- lists by their places

pub get-set_other : {X : Type 0} (xs : List X) (i j : ℕ) (x : X) → j ≢ i → slice_get (slice_set xs i x) j ≡ slice_get xs j
get-set_other [] i j x n = refl
get-set_other (y ∷ xs) zero zero x n = absurd (n refl)
get-set_other (y ∷ xs) zero (suc j) x n = refl
get-set_other (y ∷ xs) (suc i) zero x n = refl
get-set_other (y ∷ xs) (suc i) (suc j) x n = get-set_other xs i j x (λ e. n (ap suc e))

pub get-set_same : {X : Type 0} (xs : List X) (i : ℕ) (x y : X) → slice_get xs i ≡ Some y → slice_get (slice_set xs i x) i ≡ Some x
get-set_same [] i x y h = cc
get-set_same (z ∷ xs) zero x y h = refl
get-set_same (z ∷ xs) (suc i) x y h = get-set_same xs i x y h

-- lists with the same at each place are the same
pub by_places : {X : Type 0} (xs ys : List X) → ((n : ℕ) → slice_get xs n ≡ slice_get ys n) → xs ≡ ys
by_places [] [] h = refl
by_places [] (y ∷ ys) h = absurd (none-some y (h 0))
by_places (x ∷ xs) [] h = absurd (none-some x (sym (h 0)))
by_places (x ∷ xs) (y ∷ ys) h = ap₂ ◌∷◌ (same_Some x y (h 0)) (by_places xs ys (λ n. h (suc n)))

-- ---- locks and calls

module _ {E : Type 0} (held : RunningCall → Option ℕ) (due : RunningCall → List E) where
  -- the entries, and what the holder still has to put
  abbrev pub whole : List RunningCall → Lock E → List E
  whole calls lock = lock.entries ++ option_map_or due (option_and_then (slice_get calls) lock.holder) []

  abbrev pub wholes : List RunningCall → List (Lock E) → List (List E)
  wholes calls locks = map (whole calls) locks

  module _ (locks : List (Lock E)) (calls : List RunningCall) (agree : Agree held locks calls) (number : ℕ) (call now : RunningCall) (is : slice_get calls number ≡ Some call) where
    abbrev pub after : List RunningCall
    after = slice_set calls number now

    -- what a lock with another holder has is as it was
    whole_other : (lock : Lock E) → ((h : ℕ) → lock.holder ≡ Some h → h ≢ number) → whole after lock ≡ whole calls lock
    whole_other lock other = by lock.holder refl
      where
        by : (holder : Option ℕ) → lock.holder ≡ holder
            → lock.entries ++ option_map_or due (option_and_then (slice_get after) holder) [] ≡ lock.entries ++ option_map_or due (option_and_then (slice_get calls) holder) []
        by None e = refl
        by (Some h) e = ap (λ o. lock.entries ++ option_map_or due o []) (get-set_other calls number h now (other h e))

    -- one lock changes, which no other call holds
    module _ (at : ℕ) (lock then : Lock E) (here : slice_get locks at ≡ Some lock)
        (mine : (h : ℕ) → held call ≡ Some h → h ≡ at) where
      apart : (j : ℕ) (other : Lock E) → j ≢ at → slice_get locks j ≡ Some other → (h : ℕ) → other.holder ≡ Some h → h ≢ number
      apart j other n there h holds same =
          let found = agree.holder j h (ap (option_and_then (λ (l : Lock E). l.holder)) there ∙ holds) in
          let call_is : found.0 ≡ call = same_Some found.0 call (sym found.1 ∙ ap (slice_get calls) same ∙ is) in
          n (mine j (sym (ap held call_is) ∙ found.2))

      pub wholes_changed : wholes after (slice_set locks at then) ≡ slice_set (wholes calls locks) at (whole after then)
      wholes_changed = by_places (wholes after (slice_set locks at then)) (slice_set (wholes calls locks) at (whole after then)) place
        where
          there : slice_get (wholes calls locks) at ≡ Some (whole calls lock)
          there = slice_get-map (whole calls) locks at ∙ ap (option_map (whole calls)) here

          beside : (j : ℕ) → j ≢ at → (o : Option (Lock E)) → slice_get locks j ≡ o → option_map (whole after) o ≡ option_map (whole calls) o
          beside j n None e = refl
          beside j n (Some other) e = ap Some (whole_other other (apart j other n e))

          place : (j : ℕ) → slice_get (wholes after (slice_set locks at then)) j ≡ slice_get (slice_set (wholes calls locks) at (whole after then)) j
          place j =
              slice_get-map (whole after) (slice_set locks at then) j
              ∙ ⊎_elim
              (λ (e : j ≡ at). ap (λ i. option_map (whole after) (slice_get (slice_set locks at then) i)) e
              ∙ ap (option_map (whole after)) (get-set_same locks at then lock here)
              ∙ sym (get-set_same (wholes calls locks) at (whole after then) (whole calls lock) there)
              ∙ ap (slice_get (slice_set (wholes calls locks) at (whole after then))) (sym e))
              (λ (n : j ≢ at). ap (option_map (whole after)) (get-set_other locks at j then n)
              ∙ beside j n (slice_get locks j) refl
              ∙ sym (slice_get-map (whole calls) locks j)
              ∙ sym (get-set_other (wholes calls locks) at j (whole after then) n))
              (cases_eq j at)

      -- and the changed lock's holder is the call, where that holds it, and nobody else
      module _ (mine_now : (h : ℕ) → held now ≡ Some h → (h ≡ at) × (then.holder ≡ Some number))
          (holder_now : (h : ℕ) → then.holder ≡ Some h → (h ≡ number) × (held now ≡ Some at))
          (free : (h : ℕ) → lock.holder ≡ Some h → h ≡ number) where
        pub agree_changed : Agree held (slice_set locks at then) after
        agree_changed = record {
          holding = λ d other j there holds. ⊎_elim
              (λ (e : d ≡ number).
              let same : other ≡ now = same_Some other now (sym there ∙ ap (slice_get after) e ∙ get-set_same calls number now call is) in
              let m = mine_now j (ap held (sym same) ∙ holds) in
              ap (λ i. option_and_then (λ (l : Lock E). l.holder) (slice_get (slice_set locks at then) i)) m.0
              ∙ ap (option_and_then (λ (l : Lock E). l.holder)) (get-set_same locks at then lock here) ∙ m.1 ∙ ap Some (sym e))
              (λ (n : d ≢ number).
              let was : holder_at locks j ≡ Some d = agree.holding d other j (sym (get-set_other calls number d now n) ∙ there) holds in
              let beside : j ≢ at = λ e. n (free d (sym (ap (λ i. holder_at locks i) e ∙ ap (option_and_then (λ (l : Lock E). l.holder)) here) ∙ was)) in
              ap (option_and_then (λ (l : Lock E). l.holder)) (get-set_other locks at j then beside) ∙ was)
              (cases_eq d number);
          holder = λ j d holds. ⊎_elim
              (λ (e : j ≡ at).
              let now_holds : then.holder ≡ Some d = sym (ap (option_and_then (λ (l : Lock E). l.holder)) (get-set_same locks at then lock here)) ∙ ap (λ i. option_and_then (λ (l : Lock E). l.holder) (slice_get (slice_set locks at then) i)) (sym e) ∙ holds in
              let m = holder_now d now_holds in
              (now, ap (slice_get after) m.0 ∙ get-set_same calls number now call is, m.1 ∙ ap Some (sym e)))
              (λ (n : j ≢ at).
              let was : holder_at locks j ≡ Some d = sym (ap (option_and_then (λ (l : Lock E). l.holder)) (get-set_other locks at j then n)) ∙ holds in
              let found = agree.holder j d was in
              let other : d ≢ number = λ e. n (mine j (sym (ap held (same_Some found.0 call (sym found.1 ∙ ap (slice_get calls) e ∙ is))) ∙ found.2)) in
              (found.0, get-set_other calls number d now other ∙ found.1, found.2))
              (cases_eq j at);
        }

    -- no lock changes, nor what the call holds and has to put
    module _ (holds_same : held now ≡ held call) (due_same : due now ≡ due call) where
      pub wholes_same : wholes after locks ≡ wholes calls locks
      wholes_same = by_places (wholes after locks) (wholes calls locks) (λ j. slice_get-map (whole after) locks j ∙ beside (slice_get locks j) ∙ sym (slice_get-map (whole calls) locks j))
        where
          of : (lock : Lock E) (holder : Option ℕ) → lock.entries ++ option_map_or due (option_and_then (slice_get after) holder) [] ≡ lock.entries ++ option_map_or due (option_and_then (slice_get calls) holder) []
          of lock None = refl
          of lock (Some h) = ⊎_elim
              (λ (e : h ≡ number).
              ap (λ o. lock.entries ++ option_map_or due o []) (ap (slice_get after) e ∙ get-set_same calls number now call is)
              ∙ ap (λ l. lock.entries ++ l) due_same
              ∙ sym (ap (λ o. lock.entries ++ option_map_or due o []) (ap (slice_get calls) e ∙ is)))
              (λ (n : h ≢ number). ap (λ o. lock.entries ++ option_map_or due o []) (get-set_other calls number h now n))
              (cases_eq h number)

          beside : (o : Option (Lock E)) → option_map (whole after) o ≡ option_map (whole calls) o
          beside None = refl
          beside (Some lock) = ap Some (of lock lock.holder)

    -- what the call holds is as it was
    module _ (holds_same : held now ≡ held call) where
      pub agree_same : Agree held locks after
      agree_same = record {
        holding = λ d other j there holds. ⊎_elim
            (λ (e : d ≡ number).
            let same : other ≡ now = same_Some other now (sym there ∙ ap (slice_get after) e ∙ get-set_same calls number now call is) in
            agree.holding number call j is (sym holds_same ∙ ap held (sym same) ∙ holds) ∙ ap Some (sym e))
            (λ (n : d ≢ number). agree.holding d other j (sym (get-set_other calls number d now n) ∙ there) holds)
            (cases_eq d number);
        holder = λ j d holds.
            let found = agree.holder j d holds in
            ⊎_elim
            (λ (e : d ≡ number).
            let same : found.0 ≡ call = same_Some found.0 call (sym found.1 ∙ ap (slice_get calls) e ∙ is) in
            (now, ap (slice_get after) e ∙ get-set_same calls number now call is, holds_same ∙ ap held (sym same) ∙ found.2))
            (λ (n : d ≢ number). (found.0, get-set_other calls number d now n ∙ found.1, found.2))
            (cases_eq d number);
      }

  -- ---- a call that holds a lock and had nothing to put there

  lock_there : (h : ℕ) (o : Option (Lock E)) → option_and_then (λ (l : Lock E). l.holder) o ≡ Some h → (lock : Lock E) × (o ≡ Some lock) × (lock.holder ≡ Some h)
  lock_there h None e = absurd (none-some h e)
  lock_there h (Some lock) e = (lock, refl, e)

  module _ (locks : List (Lock E)) (calls : List RunningCall) (agree : Agree held locks calls) (number : ℕ) (call : RunningCall) (is : slice_get calls number ≡ Some call) (nothing : due call ≡ []) where
    pub its_lock : (at : ℕ) → held call ≡ Some at → (lock : Lock E) × (slice_get locks at ≡ Some lock) × (lock.holder ≡ Some number)
    its_lock at holds = lock_there number (slice_get locks at) (agree.holding number call at is holds)

    whole_of : (lock : Lock E) → lock.holder ≡ Some number → whole calls lock ≡ lock.entries
    whole_of lock mine =
        ap (λ (o : Option ℕ). lock.entries ++ option_map_or due (option_and_then (slice_get calls) o) []) mine
        ∙ ap (λ o. lock.entries ++ option_map_or due o []) is ∙ ap (λ l. lock.entries ++ l) nothing ∙ append-nil lock.entries

    -- the whole list there is its own
    pub its_whole : (at : ℕ) (holds : held call ≡ Some at) → slice_get (wholes calls locks) at ≡ Some (its_lock at holds).0.entries
    its_whole at holds =
        let found = its_lock at holds in
        slice_get-map (whole calls) locks at ∙ ap (option_map (whole calls)) found.1 ∙ ap (λ l. Some l) (whole_of found.0 found.2)

    -- and grows by what it then has to put
    module _ (now : RunningCall) (holds_same : held now ≡ held call) (added : List E) where
      pub grown : (n : Option ℕ) → held call ≡ n → (n ≡ None → due now ≡ []) → ((at : ℕ) → n ≡ Some at → due now ≡ added)
          → wholes (slice_set calls number now) locks ≡ with_added (wholes calls locks) n added
      grown None holds none some = wholes_same locks calls agree number call now is holds_same (none refl ∙ sym nothing)
      grown (Some at) holds none some =
          let found = its_lock at holds in
          let lock : Lock E = found.0 in
          ap (wholes (slice_set calls number now)) (sym (put_back locks at lock found.1))
          ∙ wholes_changed locks calls agree number call now is at lock lock found.1 (λ h e. same_Some h at (sym e ∙ holds))
          ∙ ap (slice_set (wholes calls locks) at)
          (ap (λ (o : Option ℕ). lock.entries ++ option_map_or due (option_and_then (slice_get (slice_set calls number now)) o) []) found.2
          ∙ ap (λ o. lock.entries ++ option_map_or due o []) (get-set_same calls number now call is)
          ∙ ap (λ l. lock.entries ++ l) (some at refl)
          ∙ sym (ap (λ (o : Option (List E)). unwrap_or o [] ++ added) (its_whole at holds)))
