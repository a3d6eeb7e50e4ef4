-- Room that is made changes nothing that is seen.
use Rattle.std.proofs.Common.{◌≡◌, ℕ, true, List, refl, sym, ap, subst, ◌∙◌, Option, None, Some, Result, Ok, Err, map, slice_get}
use Rattle.std.specs.Prelude.{OnErr}
use Rattle.std.proofs.lemmas.Option.{none-some, same_Some}
use Rattle.ocpi_types.specs.declared.config.Config.{Config}
use Rattle.house_core.specs.declared.locks.AccountLock.{AccountLock}
use Rattle.house_core.specs.declared.locks.BookLock.{BookLock}
use Rattle.house_core.specs.declared.parts.Parts.{Parts}
use Rattle.house_core.specs.Calls.{held_account, held_book}
use Rattle.house_core.specs.Inner.Ready.{AccountIsReady, AreReady, AreSound, BookIsReady, shown}
use Rattle.house_core.specs.Inner.Shown.{changed_lock, changed_there, roomy_account, roomy_book, shown_account, shown_accounts, shown_book, shown_books}
use Rattle.house_core.specs.Inner.Sound.{Holds}
use Rattle.period_order.specs.Kept.{IsConfiguration}
use Rattle.house_core.specs.World.{PlainWorld}
use Rattle.house_core.proofs.ReadyLemmas.{ready_changed}
use Rattle.house_core.proofs.StepLemmas.{same_shown}
use Rattle.house_core.proofs.Wholes.{get-set_same}

pub on_err : {T E : Type 0} (r : Result T E) (P : Type 0) → P → OnErr r P
on_err (Ok x) P p = tt
on_err (Err e) P p = p

-- a lock that changes in what is not shown
shown_changed : {L S : Type 0} (show : L → S) (change : L → L) → ((lock : L) → show (change lock) ≡ show lock) → (locks : List L) (at : Option ℕ) → map show (changed_lock change locks at) ≡ map show locks
shown_changed show change same locks None = refl
shown_changed {L} show change same locks (Some at) = by (slice_get locks at) refl
  where
    by : (o : Option L) → slice_get locks at ≡ o → map show (changed_there change locks at o) ≡ map show locks
    by None e = refl
    by (Some lock) e = same_shown show locks at lock (change lock) e (same lock)

there_changed : {L : Type 0} (change : L → L) (locks : List L) (at : ℕ) (lock : L) → slice_get (changed_lock change locks (Some at)) at ≡ Some lock → (old : L) × (lock ≡ change old)
there_changed {L} change locks at lock = by (slice_get locks at) refl
  where
    by : (o : Option L) → slice_get locks at ≡ o → slice_get (changed_there change locks at o) at ≡ Some lock → (old : L) × (lock ≡ change old)
    by None e h = absurd (none-some lock (sym e ∙ h))
    by (Some old) e h = (old, same_Some lock (change old) (sym h ∙ get-set_same locks at (change old) old e))

pub book_roomy : (locks : List BookLock) (at : ℕ) (lock : BookLock) → slice_get (changed_lock roomy_book locks (Some at)) at ≡ Some lock → lock.book.has_room ≡ true
book_roomy locks at lock h = ap (λ (l : BookLock). l.book.has_room) (there_changed roomy_book locks at lock h).1

pub account_roomy : (locks : List AccountLock) (at : ℕ) (lock : AccountLock) → slice_get (changed_lock roomy_account locks (Some at)) at ≡ Some lock → lock.account.has_room ≡ true
account_roomy locks at lock h = ap (λ (l : AccountLock). l.account.has_room) (there_changed roomy_account locks at lock h).1

module _ (parts : Parts) (sound : AreSound parts) (now : Parts) (config : now.config ≡ parts.config) (calls : now.calls ≡ parts.calls) (order : now.order.entries ≡ parts.order.entries)
    (book account : Option ℕ) (books : now.books.items ≡ changed_lock roomy_book parts.books.items book) (accounts : now.accounts.items ≡ changed_lock roomy_account parts.accounts.items account) where
  pub shown_is : shown now ≡ shown parts
  shown_is = λ i. record {
    config = config i;
    books = (ap shown_books books ∙ shown_changed shown_book roomy_book (λ l. refl) parts.books.items book) i;
    accounts = (ap shown_accounts accounts ∙ shown_changed shown_account roomy_account (λ l. refl) parts.accounts.items account) i;
    order = order i;
    calls = (calls i).items;
  }

  pub sound_now : AreSound now
  sound_now = record {
    commands = sound.commands;
    events = sound.events;
    config = subst (λ c. IsConfiguration c) (sym config) sound.config;
    holds = subst (λ (c : Config). Holds c sound.commands sound.events (shown now)) (sym config) (subst (λ (w : PlainWorld). Holds parts.config sound.commands sound.events w) (sym shown_is) sound.holds);
    ready = record {
      books =
          subst (λ c. AreReady held_book BookIsReady c.items now.books.items) (sym calls)
          (subst (λ (l : List BookLock). AreReady held_book BookIsReady parts.calls.items l) (sym books)
          (ready_changed held_book BookIsReady parts.calls.items parts.books.items sound.ready.books roomy_book (λ call lock is carried event h g. (refl, (is carried event h g).1)) book));
      accounts =
          subst (λ c. AreReady held_account AccountIsReady c.items now.accounts.items) (sym calls)
          (subst (λ (l : List AccountLock). AreReady held_account AccountIsReady parts.calls.items l) (sym accounts)
          (ready_changed held_account AccountIsReady parts.calls.items parts.accounts.items sound.ready.accounts roomy_account (λ call lock is carried event h g. (refl, (is carried event h g).1)) account));
    };
  }
