-- Steps that change one call, and no lock or one.
use Rattle.std.proofs.Common.{◌≡◌, ◌≢◌, ℕ, List, sym, ap, subst, ◌∙◌, Some, option_map, slice_get, slice_set, ⊎_elim}
use Rattle.std.proofs.lemmas.Bool.{cases_eq}
use Rattle.std.proofs.lemmas.Option.{same_Some, slice_get-map}
use Rattle.ocpi_types.specs.declared.config.Config.{Config}
use Rattle.cdr_checks.specs.declared.request.Command.{Command}
use Rattle.plain_house.specs.declared.entry.AccountEntry.{AccountEntry}
use Rattle.plain_house.specs.declared.entry.BookEntry.{BookEntry}
use Rattle.plain_house.specs.declared.event.Event.{Event}
use Rattle.period_order.specs.declared.order_entry.OrderEntry.{OrderEntry}
use Rattle.period_order.specs.Kept.{Keeps}
use Rattle.house_core.specs.declared.running_call.RunningCall.{RunningCall}
use Rattle.house_core.specs.Calls.{due_in_account, due_in_book, held_account, held_book}
use Rattle.house_core.specs.Inner.Sound.{Holds, IsRunningCall}
use Rattle.house_core.specs.Locks.{Lock}
use Rattle.house_core.specs.World.{PlainWorld}
use Rattle.house_core.proofs.StepLemmas.{put_back, with_call}
use Rattle.house_core.proofs.Wholes.{agree_changed, agree_same, get-set_other, get-set_same, whole, wholes, wholes_changed, wholes_same}

-- what is kept, in other words
pub kept_as : (config : Config) (books now_books : List (List BookEntry)) (accounts now_accounts : List (List AccountEntry)) (order : List OrderEntry) (events : List Event)
    → Keeps config books accounts order events → now_books ≡ books → now_accounts ≡ accounts → Keeps config now_books now_accounts order events
kept_as config books now_books accounts now_accounts order events keeps b a = record {
  legal = keeps.legal;
  books_are = b ∙ keeps.books_are;
  accounts_are = a ∙ keeps.accounts_are;
  order_is = keeps.order_is;
}

module _ (config : Config) (commands : List Command) (events : List Event) (world : PlainWorld) (holds : Holds config commands events world)
    (number : ℕ) (call now : RunningCall) (is : slice_get world.calls number ≡ Some call) where
  -- each call is where it is, the changed one too
  pub calls_after : ((command : Command) → slice_get commands number ≡ Some command → IsRunningCall config events command call → IsRunningCall config events command now)
      → (n : ℕ) (other : RunningCall) → slice_get (slice_set world.calls number now) n ≡ Some other
      → (command : Command) × (slice_get commands n ≡ Some command) × IsRunningCall config events command other
  calls_after goes_on n other there = ⊎_elim
      (λ (e : n ≡ number).
      let same : now ≡ other = same_Some now other (sym (get-set_same world.calls number now call is) ∙ ap (slice_get (slice_set world.calls number now)) (sym e) ∙ there) in
      let old = holds.calls number call is in
      (old.0, ap (slice_get commands) e ∙ old.1, subst (IsRunningCall config events old.0) same (goes_on old.0 old.1 old.2)))
      (λ (d : n ≢ number). holds.calls n other (sym (get-set_other world.calls number n now d) ∙ there))
      (cases_eq n number)

  -- a call goes on by itself
  pub goes_on : held_book now ≡ held_book call → due_in_book now ≡ due_in_book call → held_account now ≡ held_account call → due_in_account now ≡ due_in_account call
      → ((command : Command) → slice_get commands number ≡ Some command → IsRunningCall config events command call → IsRunningCall config events command now)
      → Holds config commands events (with_call world number now)
  goes_on book book_due account account_due further = record {
    config_is = holds.config_is;
    kept = kept_as config (wholes held_book due_in_book world.calls world.books) (wholes held_book due_in_book (slice_set world.calls number now) world.books)
        (wholes held_account due_in_account world.calls world.accounts) (wholes held_account due_in_account (slice_set world.calls number now) world.accounts) world.order events holds.kept
        (wholes_same held_book due_in_book world.books world.calls holds.books number call now is book book_due)
        (wholes_same held_account due_in_account world.accounts world.calls holds.accounts number call now is account account_due);
    books = agree_same held_book due_in_book world.books world.calls holds.books number call now is book;
    accounts = agree_same held_account due_in_account world.accounts world.calls holds.accounts number call now is account;
    calls = calls_after further;
  }

  -- a call goes on with the lock of its book, which no other call holds; what is whole stays as it was
  module _ (at : ℕ) (lock new : Lock BookEntry) (here : slice_get world.books at ≡ Some lock)
      (mine : (h : ℕ) → held_book call ≡ Some h → h ≡ at)
      (mine_now : (h : ℕ) → held_book now ≡ Some h → (h ≡ at) × (new.holder ≡ Some number))
      (holder_now : (h : ℕ) → new.holder ≡ Some h → (h ≡ number) × (held_book now ≡ Some at))
      (free : (h : ℕ) → lock.holder ≡ Some h → h ≡ number)
      (same : whole held_book due_in_book (slice_set world.calls number now) new ≡ whole held_book due_in_book world.calls lock)
      (account : held_account now ≡ held_account call) (account_due : due_in_account now ≡ due_in_account call) where
    at_place : slice_get (wholes held_book due_in_book world.calls world.books) at ≡ Some (whole held_book due_in_book world.calls lock)
    at_place = slice_get-map (whole held_book due_in_book world.calls) world.books at ∙ ap (option_map (whole held_book due_in_book world.calls)) here

    pub goes_on_with_book : ((command : Command) → slice_get commands number ≡ Some command → IsRunningCall config events command call → IsRunningCall config events command now)
        → Holds config commands events (record { config = world.config; books = slice_set world.books at new; accounts = world.accounts; order = world.order; calls = slice_set world.calls number now })
    goes_on_with_book further = record {
      config_is = holds.config_is;
      kept = kept_as config (wholes held_book due_in_book world.calls world.books) (wholes held_book due_in_book (slice_set world.calls number now) (slice_set world.books at new))
          (wholes held_account due_in_account world.calls world.accounts) (wholes held_account due_in_account (slice_set world.calls number now) world.accounts) world.order events holds.kept
          (wholes_changed held_book due_in_book world.books world.calls holds.books number call now is at lock new here mine
          ∙ ap (slice_set (wholes held_book due_in_book world.calls world.books) at) same
          ∙ put_back (wholes held_book due_in_book world.calls world.books) at (whole held_book due_in_book world.calls lock) at_place)
          (wholes_same held_account due_in_account world.accounts world.calls holds.accounts number call now is account account_due);
      books = agree_changed held_book due_in_book world.books world.calls holds.books number call now is at lock new here mine mine_now holder_now free;
      accounts = agree_same held_account due_in_account world.accounts world.calls holds.accounts number call now is account;
      calls = calls_after further;
    }

  -- a call goes on with the lock of its account, which no other call holds; what is whole stays as it was
  module _ (at : ℕ) (lock new : Lock AccountEntry) (here : slice_get world.accounts at ≡ Some lock)
      (mine : (h : ℕ) → held_account call ≡ Some h → h ≡ at)
      (mine_now : (h : ℕ) → held_account now ≡ Some h → (h ≡ at) × (new.holder ≡ Some number))
      (holder_now : (h : ℕ) → new.holder ≡ Some h → (h ≡ number) × (held_account now ≡ Some at))
      (free : (h : ℕ) → lock.holder ≡ Some h → h ≡ number)
      (same : whole held_account due_in_account (slice_set world.calls number now) new ≡ whole held_account due_in_account world.calls lock)
      (book : held_book now ≡ held_book call) (book_due : due_in_book now ≡ due_in_book call) where
    account_place : slice_get (wholes held_account due_in_account world.calls world.accounts) at ≡ Some (whole held_account due_in_account world.calls lock)
    account_place = slice_get-map (whole held_account due_in_account world.calls) world.accounts at ∙ ap (option_map (whole held_account due_in_account world.calls)) here

    pub goes_on_with_account : ((command : Command) → slice_get commands number ≡ Some command → IsRunningCall config events command call → IsRunningCall config events command now)
        → Holds config commands events (record { config = world.config; books = world.books; accounts = slice_set world.accounts at new; order = world.order; calls = slice_set world.calls number now })
    goes_on_with_account further = record {
      config_is = holds.config_is;
      kept = kept_as config (wholes held_book due_in_book world.calls world.books) (wholes held_book due_in_book (slice_set world.calls number now) world.books)
          (wholes held_account due_in_account world.calls world.accounts) (wholes held_account due_in_account (slice_set world.calls number now) (slice_set world.accounts at new)) world.order events holds.kept
          (wholes_same held_book due_in_book world.books world.calls holds.books number call now is book book_due)
          (wholes_changed held_account due_in_account world.accounts world.calls holds.accounts number call now is at lock new here mine
          ∙ ap (slice_set (wholes held_account due_in_account world.calls world.accounts) at) same
          ∙ put_back (wholes held_account due_in_account world.calls world.accounts) at (whole held_account due_in_account world.calls lock) account_place);
      books = agree_same held_book due_in_book world.books world.calls holds.books number call now is book;
      accounts = agree_changed held_account due_in_account world.accounts world.calls holds.accounts number call now is at lock new here mine mine_now holder_now free;
      calls = calls_after further;
    }
