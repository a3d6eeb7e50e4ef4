-- A call that puts what it carries, and one that gives its locks back.
use Rattle.std.proofs.Common.{◌≡◌, ◌&&◌, not, ℕ, Bool, true, false, true≢false, if◌then◌else◌, List, [], ◌++◌, refl, sym, ap, ◌∙◌, Option, None, Some, is_some, map, option_map, slice_get, slice_set}
use Rattle.std.specs.Option.{option_and_then, option_map_or}
use Rattle.std.proofs.lemmas.Bool.{and_parts}
use Rattle.std.proofs.lemmas.List.{map-set}
use Rattle.std.proofs.lemmas.Option.{none-some, same_Some, slice_get-map}
use Rattle.plain_house.specs.declared.entry.AccountEntry.{AccountEntry}
use Rattle.plain_house.specs.declared.entry.BookEntry.{BookEntry}
use Rattle.plain_house.specs.declared.event.Event.{Event}
use Rattle.house_core.specs.declared.running_call.RunningCall.{RunningCall}
use Rattle.house_core.specs.declared.stage.Carried.{Carried}
use Rattle.house_core.specs.declared.stage.Stage.{Stage}
use Rattle.house_core.specs.declared.stage.Stage.TheVariants as stage
use Rattle.house_core.specs.declared.step.Action.TheVariants as action
use Rattle.house_core.specs.Calls.{begun, due_in_account, due_in_book, for_account, for_book, held_account, held_book, has_its_book, in_account, in_book, ordered, wanted_account, wanted_book}
use Rattle.house_core.specs.Inner.Moves.{carried_event, put_in_its_book, without_event}
use Rattle.house_core.specs.Inner.Shown.{changed_lock, changed_there}
use Rattle.house_core.specs.Locks.{Lock, freed, lock_at, with_lock}
use Rattle.house_core.specs.Steps.{changed, put_account, put_book, step}
use Rattle.house_core.specs.World.{PlainWorld}
use Rattle.house_core.proofs.StepLemmas.{account_changed, book_changed, no_lock, stepped}

-- ---- what is under a condition

pub some_there : {X : Type 0} (o : Option X) → is_some o ≡ true → (x : X) × (o ≡ Some x)
some_there None h = absurd (true≢false (sym h))
some_there (Some x) h = (x, refl)

pub met : {X : Type 0} (b : Bool) (o : Option X) (x : X) → (if b then o else None) ≡ Some x → (b ≡ true) × (o ≡ Some x)
met true o x h = (refl, h)
met false o x h = absurd (none-some x h)

-- a call that wants a lock has begun
wants : {X : Type 0} (b c : Bool) (o : Option X) (x : X) → (if b && c then o else None) ≡ Some x → b ≡ true
wants true c o x h = refl
wants false c o x h = absurd (none-some x h)

pub begun_wants_book : (call : RunningCall) (at : ℕ) → wanted_book call ≡ Some at → is_some (begun call.stage) ≡ true
begun_wants_book call at h = wants (is_some (begun call.stage)) (not call.has_book) call.book at h

pub begun_wants_account : (call : RunningCall) (at : ℕ) → wanted_account call ≡ Some at → is_some (begun call.stage) ≡ true
begun_wants_account call at h = by (is_some (begun call.stage)) (has_its_book call) h
  where
    by : (b d : Bool) → (if b && d && not call.has_account then call.account else None) ≡ Some at → b ≡ true
    by true d g = refl
    by false d g = absurd (none-some at g)

-- the event that is taken out is carried
pub carried_of : (s : Stage) (event : Event) (period : ℕ) → carried_event s ≡ Some (event, period) → (carried : Carried) × (ordered s ≡ Some carried) × (carried.event ≡ Some event)
carried_of s event period h = by (ordered s) refl h
  where
    inner : (carried : Carried) (o : Option Event) → carried.event ≡ o → option_map {U = Event × ℕ} (λ (e : Event). (e, carried.period)) o ≡ Some (event, period) → carried.event ≡ Some event
    inner carried None e g = absurd (none-some (event, period) g)
    inner carried (Some x) e g = e ∙ ap (λ (p : Event × ℕ). Some p.0) (same_Some (x, carried.period) (event, period) g)

    by : (o : Option Carried) → ordered s ≡ o → option_and_then (λ (c : Carried). option_map {U = Event × ℕ} (λ (e : Event). (e, c.period)) c.event) o ≡ Some (event, period)
        → (carried : Carried) × (ordered s ≡ Some carried) × (carried.event ≡ Some event)
    by None e g = absurd (none-some (event, period) g)
    by (Some carried) e g = (carried, e, inner carried carried.event refl g)

due_is : {E : Type 0} (f : Carried → List E) (b : Bool) (o : Option Carried) (carried : Carried) → (if b then o else None) ≡ Some carried
    → (if b then option_map_or f o [] else []) ≡ f carried
due_is f true o carried h = ap (λ (x : Option Carried). option_map_or f x []) h
due_is f false o carried h = absurd (none-some carried h)

both_due : {E : Type 0} (f : Carried → List E) (b c : Bool) (o : Option Carried) (carried : Carried) → (if b && c then o else None) ≡ Some carried
    → (if b then option_map_or f o [] else []) ≡ f carried
both_due f true true o carried h = ap (λ (x : Option Carried). option_map_or f x []) h
both_due f true false o carried h = absurd (none-some carried h)
both_due f false c o carried h = absurd (none-some carried h)

pub due_account : (call : RunningCall) (carried : Carried) → for_account call ≡ Some carried → due_in_account call ≡ in_account carried
due_account call carried h = due_is in_account call.has_account (ordered call.stage) carried h

pub due_book : (call : RunningCall) (carried : Carried) → for_book call ≡ Some carried → due_in_book call ≡ in_book carried
due_book call carried h = both_due in_book call.has_book (not call.has_account) (ordered call.stage) carried h

-- nothing is carried any more
carries_no_more : (s : Stage) (carried : Carried) → ordered s ≡ Some carried → without_event s ≡ stage.Ordered (record carried { event = None })
carries_no_more (stage.Waiting command) carried h = absurd (none-some carried h)
carries_no_more (stage.Begun command) carried h = absurd (none-some carried h)
carries_no_more (stage.Ordered own) carried h = ap (λ (c : Carried). stage.Ordered (record c { event = None })) (same_Some own carried h)
carries_no_more (stage.Netting netting) carried h = absurd (none-some carried h)
carries_no_more (stage.Stating stating) carried h = absurd (none-some carried h)
carries_no_more stage.Ended carried h = absurd (none-some carried h)

pub carries_none : (s : Stage) (carried : Carried) → ordered (without_event s) ≡ Some carried → carried.event ≡ None
carries_none (stage.Waiting command) carried h = absurd (none-some carried h)
carries_none (stage.Begun command) carried h = absurd (none-some carried h)
carries_none (stage.Ordered own) carried h = ap (λ (c : Carried). c.event) (sym (same_Some (record own { event = None }) carried h))
carries_none (stage.Netting netting) carried h = absurd (none-some carried h)
carries_none (stage.Stating stating) carried h = absurd (none-some carried h)
carries_none stage.Ended carried h = absurd (none-some carried h)

-- where it puts, it carries and holds
pub puts_account_at : (call : RunningCall) (at : ℕ) → (if is_some (for_account call) then call.account else None) ≡ Some at
    → ((carried : Carried) × (for_account call ≡ Some carried)) × (call.account ≡ Some at) × (held_account call ≡ Some at)
puts_account_at call at h =
    let both = met (is_some (for_account call)) call.account at h in
    let one = some_there (for_account call) both.0 in
    let has = met call.has_account (ordered call.stage) one.0 one.1 in
    (one, both.1, ap (λ b. if b then call.account else None) has.0 ∙ both.1)

pub puts_book_at : (call : RunningCall) (at : ℕ) → (if is_some (for_book call) then call.book else None) ≡ Some at
    → ((carried : Carried) × (for_book call ≡ Some carried)) × (call.book ≡ Some at) × (held_book call ≡ Some at)
puts_book_at call at h =
    let both = met (is_some (for_book call)) call.book at h in
    let one = some_there (for_book call) both.0 in
    let has = met (call.has_book && not call.has_account) (ordered call.stage) one.0 one.1 in
    (one, both.1, ap (λ b. if b then call.book else None) (and_parts call.has_book (not call.has_account) has.0).0 ∙ both.1)

-- ---- the world

module _ (world : PlainWorld) (number : ℕ) (call : RunningCall) (is : slice_get world.calls number ≡ Some call) where
  pub did_put_account : (carried : Carried) (at : ℕ) (lock : Lock AccountEntry) → for_account call ≡ Some carried → call.account ≡ Some at → slice_get world.accounts at ≡ Some lock
      → record {
        config = world.config;
        books = world.books;
        accounts = slice_set world.accounts at (record { holder = None; entries = lock.entries ++ in_account carried });
        order = world.order;
        calls = slice_set world.calls number (record call { has_account = false });
      } ≡ step world (record { call = number; action = action.PutAccount })
  did_put_account carried at lock puts own there =
      sym (account_changed world number (record call { has_account = false }) at (record { holder = None; entries = lock.entries ++ in_account carried }) own)
      ∙ ap (changed world number)
      (sym (ap (option_and_then (λ (c : Carried). option_map (put_account call c) (lock_at world.accounts call.account))) puts
      ∙ ap (λ (o : Option ℕ). option_map (put_account call carried) (lock_at world.accounts o)) own
      ∙ ap (option_map (put_account call carried)) there))
      ∙ sym (stepped world number call action.PutAccount is)

  pub did_put_book : (carried : Carried) (at : ℕ) (lock : Lock BookEntry) → for_book call ≡ Some carried → call.book ≡ Some at → slice_get world.books at ≡ Some lock
      → record {
        config = world.config;
        books = slice_set world.books at (record { holder = None; entries = lock.entries ++ in_book carried });
        accounts = world.accounts;
        order = world.order;
        calls = slice_set world.calls number (put_in_its_book call);
      } ≡ step world (record { call = number; action = action.PutBook })
  did_put_book carried at lock puts own there =
      let carries : ordered call.stage ≡ Some carried = (met (call.has_book && not call.has_account) (ordered call.stage) carried puts).1 in
      let now : RunningCall = record call { has_book = false; stage = stage.Ordered (record carried { event = None }) } in
      (λ i. record {
        config = world.config;
        books = slice_set world.books at (record { holder = None; entries = lock.entries ++ in_book carried });
        accounts = world.accounts;
        order = world.order;
        calls = slice_set world.calls number (record call { has_book = false; stage = carries_no_more call.stage carried carries i });
      })
      ∙ sym (book_changed world number now at (record { holder = None; entries = lock.entries ++ in_book carried }) own)
      ∙ ap (changed world number)
      (sym (ap (option_and_then (λ (c : Carried). option_map (put_book call c) (lock_at world.books call.book))) puts
      ∙ ap (λ (o : Option ℕ). option_map (put_book call carried) (lock_at world.books o)) own
      ∙ ap (option_map (put_book call carried)) there))
      ∙ sym (stepped world number call action.PutBook is)

-- ---- locks given back

module _ {L E : Type 0} (show : L → Lock E) (free : L → L) (frees : (lock : L) → show (free lock) ≡ freed (show lock)) (locks : List L) where
  pub freed_is : (b : Bool) (o : Option ℕ) → map show (changed_lock free locks (if b then o else None)) ≡ with_lock (map show locks) o (option_map freed (lock_at (map show locks) (if b then o else None)))
  freed_is false o = sym (no_lock (map show locks) o)
  freed_is true None = refl
  freed_is true (Some n) = by (slice_get locks n) ∙ ap (λ l. with_lock (map show locks) (Some n) (option_map freed l)) (sym (slice_get-map show locks n))
    where
      by : (o : Option L) → map show (changed_there free locks n o) ≡ with_lock (map show locks) (Some n) (option_map freed (option_map show o))
      by None = refl
      by (Some lock) = map-set show locks n (free lock) ∙ ap (slice_set (map show locks) n) (frees lock)
