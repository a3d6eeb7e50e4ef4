-- A step of a call that is there.
use Rattle.std.proofs.Common.{◌≡◌, ◌<◌, length, map, option_map, get_or, is_some, true≢false, false, ℕ, zero, suc, List, [], ◌∷◌, refl, sym, ap, ◌∙◌, append-nil, Option, None, Some, slice_get, slice_set}
use Rattle.std.specs.Option.{option_and_then}
use Rattle.std.proofs.lemmas.List.{map-set}
use Rattle.std.proofs.lemmas.Option.{same_Some, slice_get-get_or, slice_get-map}
use Rattle.plain_house.specs.declared.entry.AccountEntry.{AccountEntry}
use Rattle.plain_house.specs.declared.entry.BookEntry.{BookEntry}
use Rattle.house_core.specs.declared.running_call.RunningCall.{RunningCall}
use Rattle.house_core.specs.declared.step.Action.{Action}
use Rattle.house_core.specs.Locks.{Lock, with_lock}
use Rattle.house_core.specs.Steps.{change_by, changed, of_account, of_book, step}
use Rattle.house_core.specs.World.{PlainWorld}

-- what is put in the place where it stands changes nothing
pub put_back : {X : Type 0} (xs : List X) (i : ℕ) (x : X) → slice_get xs i ≡ Some x → slice_set xs i x ≡ xs
put_back [] i x h = refl
put_back (y ∷ xs) zero x h = ap (λ z. z ∷ xs) (sym (same_Some y x h))
put_back (y ∷ xs) (suc i) x h = ap (λ l. y ∷ l) (put_back xs i x h)

-- the step of the call that is there
pub stepped : (world : PlainWorld) (number : ℕ) (call : RunningCall) (action : Action) → slice_get world.calls number ≡ Some call
    → step world (record { call = number; action = action }) ≡ changed world number (change_by world number call action)
stepped world number call action is =
    ap (λ (o : Option RunningCall). changed world number (option_and_then (λ (c : RunningCall). change_by world number c action) o)) is

-- no lock is put in the place of another
pub no_lock : {E : Type 0} (locks : List (Lock E)) (number : Option ℕ) → with_lock locks number None ≡ locks
no_lock locks None = refl
no_lock locks (Some number) = refl

-- the world with a call in the place where it stands
pub same_call : (world : PlainWorld) (number : ℕ) (call : RunningCall) → slice_get world.calls number ≡ Some call
    → world ≡ record { config = world.config; books = world.books; accounts = world.accounts; order = world.order; calls = slice_set world.calls number call }
same_call world number call is = λ i. record {
  config = world.config;
  books = world.books;
  accounts = world.accounts;
  order = world.order;
  calls = sym (put_back world.calls number call is) i;
}

-- the world with another call in that place
abbrev pub with_call : PlainWorld → ℕ → RunningCall → PlainWorld
with_call world number call = record {
  config = world.config;
  books = world.books;
  accounts = world.accounts;
  order = world.order;
  calls = slice_set world.calls number call;
}

-- where the call alone changes
pub call_changed : (world : PlainWorld) (number : ℕ) (call : RunningCall)
    → changed world number (Some (record { call = call; book = None; account = None; entry = None })) ≡ with_call world number call
call_changed world number call = λ i. record {
  config = world.config;
  books = no_lock world.books call.book i;
  accounts = no_lock world.accounts call.account i;
  order = append-nil world.order i;
  calls = slice_set world.calls number call;
}

-- what an index borrows
pub borrowed : {X : Type 0} (items : List X) (number : ℕ) (old : X) → number < length items → old ≡ get_or items number old → slice_get items number ≡ Some old
borrowed items number old within value = slice_get-get_or items number old within ∙ ap (λ x. Some x) (sym value)

-- where a call changes, and the lock of its book
pub book_changed : (world : PlainWorld) (number : ℕ) (call : RunningCall) (at : ℕ) (lock : Lock BookEntry) → call.book ≡ Some at
    → changed world number (Some (of_book call lock))
    ≡ record { config = world.config; books = slice_set world.books at lock; accounts = world.accounts; order = world.order; calls = slice_set world.calls number call }
book_changed world number call at lock own = λ i. record {
  config = world.config;
  books = with_lock world.books (own i) (Some lock);
  accounts = no_lock world.accounts call.account i;
  order = append-nil world.order i;
  calls = slice_set world.calls number call;
}

-- or of its account
pub account_changed : (world : PlainWorld) (number : ℕ) (call : RunningCall) (at : ℕ) (lock : Lock AccountEntry) → call.account ≡ Some at
    → changed world number (Some (of_account call lock))
    ≡ record { config = world.config; books = world.books; accounts = slice_set world.accounts at lock; order = world.order; calls = slice_set world.calls number call }
account_changed world number call at lock own = λ i. record {
  config = world.config;
  books = no_lock world.books call.book i;
  accounts = with_lock world.accounts (own i) (Some lock);
  order = append-nil world.order i;
  calls = slice_set world.calls number call;
}

pub none_there : {X : Type 0} (o : Option X) → is_some o ≡ false → o ≡ None
none_there None h = refl
none_there (Some x) h = absurd (true≢false h)

-- what is seen of it as before leaves the list as it was seen
pub same_shown : {X Y : Type 0} (f : X → Y) (items : List X) (number : ℕ) (old now : X) → slice_get items number ≡ Some old → f now ≡ f old
    → map f (slice_set items number now) ≡ map f items
same_shown f items number old now found same =
    map-set f items number now ∙ ap (slice_set (map f items) number) same
    ∙ put_back (map f items) number (f old) (slice_get-map f items number ∙ ap (option_map f) found)
