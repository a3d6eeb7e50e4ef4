-- A call that takes a lock.
use Rattle.std.proofs.Common.{◌≡◌, ℕ, Bool, true, false, if◌then◌else◌, sym, ap, ◌∙◌, append-nil, is_none, Option, None, Some, slice_get, slice_set}
use Rattle.std.specs.Option.{option_and_then}
use Rattle.std.proofs.lemmas.Option.{none-some}
use Rattle.plain_house.specs.declared.entry.AccountEntry.{AccountEntry}
use Rattle.plain_house.specs.declared.entry.BookEntry.{BookEntry}
use Rattle.house_core.specs.declared.running_call.RunningCall.{RunningCall}
use Rattle.house_core.specs.declared.step.Action.TheVariants as action
use Rattle.house_core.specs.Calls.{wanted_account, wanted_book}
use Rattle.house_core.specs.Locks.{Lock, held, lock_at, with_lock}
use Rattle.house_core.specs.Steps.{Change, changed, of_account, of_book, step, take_account, take_book}
use Rattle.house_core.specs.World.{PlainWorld}
use Rattle.house_core.proofs.StepLemmas.{no_lock, stepped}

-- what is given under a condition is what is there
only_if : {X : Type 0} (b : Bool) (o : Option X) (x : X) → (if b then o else None) ≡ Some x → o ≡ Some x
only_if true o x h = h
only_if false o x h = absurd (none-some x h)

free_lock : (holder : Option ℕ) (given : Change) → holder ≡ None → (if is_none holder then Some given else None) ≡ Some given
free_lock holder given h = ap (λ (o : Option ℕ). if is_none o then Some given else None) h

module _ (world : PlainWorld) (number : ℕ) (call : RunningCall) (is : slice_get world.calls number ≡ Some call) (at : ℕ) where
  pub took_book : (lock : Lock BookEntry) → wanted_book call ≡ Some at → slice_get world.books at ≡ Some lock → lock.holder ≡ None
      → record {
        config = world.config;
        books = slice_set world.books at (held number lock);
        accounts = world.accounts;
        order = world.order;
        calls = slice_set world.calls number (record call { has_book = true });
      } ≡ step world (record { call = number; action = action.TakeBook })
  took_book lock wanted there free =
      let now : RunningCall = record call { has_book = true } in
      let given : Change = of_book now (held number lock) in
      let own : call.book ≡ Some at = only_if _ call.book at wanted in
      (λ i. record {
        config = world.config;
        books = with_lock world.books (sym own i) (Some (held number lock));
        accounts = sym (no_lock world.accounts call.account) i;
        order = sym (append-nil world.order) i;
        calls = slice_set world.calls number now;
      })
      ∙ ap (changed world number)
      (sym (ap (λ o. option_and_then (take_book number call) (lock_at world.books o)) wanted
      ∙ ap (option_and_then (take_book number call)) there ∙ free_lock lock.holder given free))
      ∙ sym (stepped world number call action.TakeBook is)

  pub took_account : (lock : Lock AccountEntry) → wanted_account call ≡ Some at → slice_get world.accounts at ≡ Some lock → lock.holder ≡ None
      → record {
        config = world.config;
        books = world.books;
        accounts = slice_set world.accounts at (held number lock);
        order = world.order;
        calls = slice_set world.calls number (record call { has_account = true });
      } ≡ step world (record { call = number; action = action.TakeAccount })
  took_account lock wanted there free =
      let now : RunningCall = record call { has_account = true } in
      let given : Change = of_account now (held number lock) in
      let own : call.account ≡ Some at = only_if _ call.account at wanted in
      (λ i. record {
        config = world.config;
        books = sym (no_lock world.books call.book) i;
        accounts = with_lock world.accounts (sym own i) (Some (held number lock));
        order = sym (append-nil world.order) i;
        calls = slice_set world.calls number now;
      })
      ∙ ap (changed world number)
      (sym (ap (λ o. option_and_then (take_account number call) (lock_at world.accounts o)) wanted
      ∙ ap (option_and_then (take_account number call)) there ∙ free_lock lock.holder given free))
      ∙ sym (stepped world number call action.TakeAccount is)
