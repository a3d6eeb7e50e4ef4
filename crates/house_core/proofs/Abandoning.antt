-- A call that is given up gives its locks back.
use Rattle.std.proofs.Common.{◌≡◌, ℕ, zero, suc, List, [], ◌∷◌, ◌++◌, Bool, true, false, if◌then◌else◌, refl, sym, ap, subst, ◌∙◌, Option, None, Some, option_map, slice_get, slice_set, append-nil}
use Rattle.std.specs.Option.{option_and_then, option_map_or}
use Rattle.std.proofs.lemmas.Option.{none-some, same_Some}
use Rattle.ocpi_types.specs.declared.config.Config.{Config}
use Rattle.cdr_checks.specs.declared.request.Command.{Command}
use Rattle.plain_house.specs.declared.entry.AccountEntry.{AccountEntry}
use Rattle.plain_house.specs.declared.entry.BookEntry.{BookEntry}
use Rattle.plain_house.specs.declared.event.Event.{Event}
use Rattle.house_core.specs.declared.running_call.RunningCall.{RunningCall}
use Rattle.house_core.specs.declared.stage.Stage.TheVariants as stage
use Rattle.house_core.specs.declared.step.Action.TheVariants as action
use Rattle.house_core.specs.Calls.{due_in_account, due_in_book, held_account, held_book}
use Rattle.house_core.specs.Inner.Sound.{Holds}
use Rattle.house_core.specs.Locks.{Lock, freed, lock_at, with_lock}
use Rattle.house_core.specs.Steps.{change_by, changed}
use Rattle.house_core.specs.World.{PlainWorld}
use Rattle.house_core.proofs.Keeping.{goes_on, goes_on_with_account, goes_on_with_book}
use Rattle.house_core.proofs.StepLemmas.{with_call}
use Rattle.house_core.proofs.Wholes.{get-set_same, its_lock}

pub set-set : {X : Type 0} (xs : List X) (i : ℕ) (x y : X) → slice_set (slice_set xs i x) i y ≡ slice_set xs i y
set-set [] i x y = refl
set-set (z ∷ xs) zero x y = refl
set-set (z ∷ xs) (suc i) x y = ap (λ l. z ∷ l) (set-set xs i x y)

module _ (config : Config) (commands : List Command) (events : List Event) (number : ℕ) (start : ℕ) (told : Command) where
  abbrev HoldsNow : PlainWorld → Type 0
  HoldsNow world = Holds config commands events world

  abbrev pub begun_call : Option ℕ → Option ℕ → Bool → Bool → RunningCall
  begun_call book account has_book has_account = record { book = book; account = account; has_book = has_book; has_account = has_account; begin = start; stage = stage.Begun told }

  -- the lock of the book is given back
  abbrev without_book : PlainWorld → Option ℕ → Option ℕ → Bool → Bool → PlainWorld
  without_book world book account has_book has_account = record {
    config = world.config;
    books = with_lock world.books book (option_map freed (lock_at world.books (if has_book then book else None)));
    accounts = world.accounts;
    order = world.order;
    calls = slice_set world.calls number (begun_call book account false has_account);
  }

  gives_book : (world : PlainWorld) → HoldsNow world → (book account : Option ℕ) (has_book has_account : Bool)
      → slice_get world.calls number ≡ Some (begun_call book account has_book has_account) → HoldsNow (without_book world book account has_book has_account)
  gives_book world holds None account false has_account is =
      goes_on config commands events world holds number (begun_call None account false has_account) (begun_call None account false has_account) is refl refl refl refl (λ own named known. known)
  gives_book world holds (Some at) account false has_account is =
      goes_on config commands events world holds number (begun_call (Some at) account false has_account) (begun_call (Some at) account false has_account) is refl refl refl refl (λ own named known. known)
  gives_book world holds None account true has_account is =
      goes_on config commands events world holds number (begun_call None account true has_account) (begun_call None account false has_account) is refl refl refl refl
      (λ own named known. record { admitted = known.admitted; book = known.book; account = known.account; bookless = λ e. refl; accountless = known.accountless; at = known.at })
  gives_book world holds (Some at) account true has_account is =
      let call : RunningCall = begun_call (Some at) account true has_account in
      let now : RunningCall = begun_call (Some at) account false has_account in
      let found = its_lock held_book due_in_book world.books world.calls holds.books number call is refl at refl in
      let lock : Lock BookEntry = found.0 in
      subst (λ (o : Option (Lock BookEntry)). HoldsNow (record {
        config = world.config;
        books = with_lock world.books (Some at) (option_map freed o);
        accounts = world.accounts;
        order = world.order;
        calls = slice_set world.calls number now;
      })) (sym found.1)
      (goes_on_with_book config commands events world holds number call now is at lock (freed lock) found.1
      (λ h e. sym (same_Some at h e))
      (λ h e. absurd (none-some h e))
      (λ h e. absurd (none-some h e))
      (λ h e. same_Some h number (sym e ∙ found.2))
      (sym (ap (λ (o : Option ℕ). lock.entries ++ option_map_or due_in_book (option_and_then (slice_get world.calls) o) []) found.2
      ∙ ap (λ o. lock.entries ++ option_map_or due_in_book o []) is))
      refl refl
      (λ own named known. record { admitted = known.admitted; book = known.book; account = known.account; bookless = λ e. refl; accountless = known.accountless; at = known.at }))

  -- and that of the account
  abbrev without_account : PlainWorld → Option ℕ → Option ℕ → Bool → Bool → PlainWorld
  without_account world book account has_book has_account = record {
    config = world.config;
    books = world.books;
    accounts = with_lock world.accounts account (option_map freed (lock_at world.accounts (if has_account then account else None)));
    order = world.order;
    calls = slice_set world.calls number (begun_call book account has_book false);
  }

  gives_account : (world : PlainWorld) → HoldsNow world → (book account : Option ℕ) (has_book has_account : Bool)
      → slice_get world.calls number ≡ Some (begun_call book account has_book has_account) → HoldsNow (without_account world book account has_book has_account)
  gives_account world holds book None has_book false is =
      goes_on config commands events world holds number (begun_call book None has_book false) (begun_call book None has_book false) is refl refl refl refl (λ own named known. known)
  gives_account world holds book (Some at) has_book false is =
      goes_on config commands events world holds number (begun_call book (Some at) has_book false) (begun_call book (Some at) has_book false) is refl refl refl refl (λ own named known. known)
  gives_account world holds book None has_book true is =
      goes_on config commands events world holds number (begun_call book None has_book true) (begun_call book None has_book false) is refl refl refl refl
      (λ own named known. record { admitted = known.admitted; book = known.book; account = known.account; bookless = known.bookless; accountless = λ e. refl; at = known.at })
  gives_account world holds book (Some at) has_book true is =
      let call : RunningCall = begun_call book (Some at) has_book true in
      let now : RunningCall = begun_call book (Some at) has_book false in
      let found = its_lock held_account due_in_account world.accounts world.calls holds.accounts number call is refl at refl in
      let lock : Lock AccountEntry = found.0 in
      subst (λ (o : Option (Lock AccountEntry)). HoldsNow (record {
        config = world.config;
        books = world.books;
        accounts = with_lock world.accounts (Some at) (option_map freed o);
        order = world.order;
        calls = slice_set world.calls number now;
      })) (sym found.1)
      (goes_on_with_account config commands events world holds number call now is at lock (freed lock) found.1
      (λ h e. sym (same_Some at h e))
      (λ h e. absurd (none-some h e))
      (λ h e. absurd (none-some h e))
      (λ h e. same_Some h number (sym e ∙ found.2))
      (sym (ap (λ (o : Option ℕ). lock.entries ++ option_map_or due_in_account (option_and_then (slice_get world.calls) o) []) found.2
      ∙ ap (λ o. lock.entries ++ option_map_or due_in_account o []) is))
      refl refl
      (λ own named known. record { admitted = known.admitted; book = known.book; account = known.account; bookless = known.bookless; accountless = λ e. refl; at = known.at }))

  pub abandons_begun : (world : PlainWorld) → HoldsNow world → (book account : Option ℕ) (has_book has_account : Bool)
      → slice_get world.calls number ≡ Some (begun_call book account has_book has_account)
      → HoldsNow (changed world number (change_by world number (begun_call book account has_book has_account) action.Abandon))
  abandons_begun world holds book account has_book has_account is =
      let call : RunningCall = begun_call book account has_book has_account in
      let one : RunningCall = begun_call book account false has_account in
      let two : RunningCall = begun_call book account false false in
      let last : RunningCall = record { book = book; account = account; has_book = false; has_account = false; begin = start; stage = stage.Ended } in
      let first : PlainWorld = without_book world book account has_book has_account in
      let is_one : slice_get first.calls number ≡ Some one = get-set_same world.calls number one call is in
      let second : PlainWorld = without_account first book account false has_account in
      let is_two : slice_get second.calls number ≡ Some two = get-set_same first.calls number two one is_one in
      let after_book : HoldsNow first = gives_book world holds book account has_book has_account is in
      let after_account : HoldsNow second = gives_account first after_book book account false has_account is_one in
      let ended : HoldsNow (with_call second number last) =
      goes_on config commands events second after_account number two last is_two refl refl refl refl
      (λ own named known. record { admitted = known.admitted; book = known.book; account = known.account; bookless = known.bookless; accountless = known.accountless; at = tt }) in
      subst HoldsNow
      (λ i. record {
        config = world.config;
        books = first.books;
        accounts = second.accounts;
        order = sym (append-nil world.order) i;
        calls = (set-set (slice_set world.calls number one) number two last ∙ set-set world.calls number one last) i;
      })
      ended
