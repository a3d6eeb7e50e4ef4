-- What holds between steps is kept by each step that changes no events.
use Rattle.std.proofs.Common.{◌≡◌, ◌≤◌, ◌&&◌, ◌||◌, not, ℕ, List, [], ◌++◌, Bool, true, false, if◌then◌else◌, refl, sym, ap, subst, ◌∙◌, length, Option, None, Some, is_none, option_map, slice_get, append-nil}
use Rattle.std.specs.Option.{option_and_then, option_map_or}
use Rattle.std.proofs.lemmas.Option.{none-some, same_Some}
use Rattle.ocpi_types.specs.declared.config.Config.{Config}
use Rattle.cdr_checks.specs.declared.request.Command.{Command}
use Rattle.plain_house.specs.declared.entry.AccountEntry.{AccountEntry}
use Rattle.plain_house.specs.declared.entry.BookEntry.{BookEntry}
use Rattle.plain_house.specs.declared.event.Event.{Event}
use Rattle.house_core.specs.declared.running_call.RunningCall.{RunningCall}
use Rattle.house_core.specs.declared.running_call.ReplyDue.{ReplyDue}
use Rattle.house_core.specs.declared.stage.Stage.{Stage}
use Rattle.house_core.specs.declared.stage.Stage.TheVariants as stage
use Rattle.house_core.specs.declared.step.Action.TheVariants as action
use Rattle.house_core.specs.Collections.{is_complete}
use Rattle.house_core.specs.Calls.{due_in_account, due_in_book, in_account, in_book}
use Rattle.house_core.specs.Inner.Sound.{Holds}
use Rattle.house_core.specs.Locks.{Lock, held, lock_at}
use Rattle.house_core.specs.Steps.{Change, begin, change_by, changed, end, of_account, of_book, put_account, put_book, take_account, take_book}
use Rattle.house_core.specs.World.{PlainWorld}
use Rattle.house_core.proofs.Keeping.{goes_on, goes_on_with_account, goes_on_with_book}
use Rattle.house_core.proofs.StepLemmas.{account_changed, book_changed, call_changed}
use Rattle.house_core.proofs.Wholes.{get-set_same}

call_with : RunningCall → ℕ → Stage → RunningCall
call_with call point stage = record call { begin = point; stage = stage }

module _ (config : Config) (commands : List Command) (events : List Event) (world : PlainWorld) (holds : Holds config commands events world)
    (number : ℕ) where
  abbrev pub HoldsNow : PlainWorld → Type 0
  HoldsNow now = Holds config commands events now

  -- ---- begin

  module _ (point : ℕ) (within : point ≤ length events) (book account : Option ℕ) (has_book has_account : Bool) (start : ℕ) where
    abbrev pub at_stage : ℕ → Stage → RunningCall
    at_stage begin stage = record { book = book; account = account; has_book = has_book; has_account = has_account; begin = begin; stage = stage }

    pub begins : (s : Stage) → slice_get world.calls number ≡ Some (at_stage start s) → HoldsNow (changed world number (begin point (at_stage start s)))
    begins (stage.Waiting command) is =
        let now : RunningCall = at_stage point (stage.Begun command) in
        subst HoldsNow (sym (call_changed world number now))
        (goes_on config commands events world holds number (at_stage start (stage.Waiting command)) now is refl refl refl refl
        (λ own is_named known. record {
          admitted = known.admitted;
          book = known.book;
          account = known.account;
          bookless = known.bookless;
          accountless = known.accountless;
          at = (known.at, within);
        }))
    begins (stage.Begun command) is = holds
    begins (stage.Ordered carried) is = holds
    begins (stage.Netting netting) is = holds
    begins (stage.Stating stating) is = holds
    begins stage.Ended is = holds

  -- ---- taking a lock

  module _ (account : Option ℕ) (has_account : Bool) (start : ℕ) where
    abbrev pub of_book_call : Bool → Option ℕ → Stage → RunningCall
    of_book_call has_book book stage = record { book = book; account = account; has_book = has_book; has_account = has_account; begin = start; stage = stage }

    pub takes_book : (has_book : Bool) (book : Option ℕ) (s : Stage) → slice_get world.calls number ≡ Some (of_book_call has_book book s)
        → HoldsNow (changed world number (change_by world number (of_book_call has_book book s) action.TakeBook))
    takes_book has_book book (stage.Waiting command) is = holds
    takes_book true book (stage.Begun command) is = holds
    takes_book false None (stage.Begun command) is = holds
    takes_book false (Some at) (stage.Begun command) is = found (slice_get world.books at) refl
      where
        free : (lock : Lock BookEntry) → slice_get world.books at ≡ Some lock → (h : Option ℕ) → lock.holder ≡ h
            → HoldsNow (changed world number (if is_none h then Some (of_book (of_book_call true (Some at) (stage.Begun command)) (held number lock)) else None))
        free lock here (Some h) f = holds
        free lock here None f =
            subst HoldsNow (sym (book_changed world number (of_book_call true (Some at) (stage.Begun command)) at (held number lock) refl))
            (goes_on_with_book config commands events world holds number (of_book_call false (Some at) (stage.Begun command)) (of_book_call true (Some at) (stage.Begun command)) is at lock (held number lock) here
            (λ h e. absurd (none-some h e))
            (λ h e. (sym (same_Some at h e), refl))
            (λ h e. (sym (same_Some number h e), refl))
            (λ h e. absurd (none-some h (sym f ∙ e)))
            (ap (λ o. lock.entries ++ option_map_or due_in_book o []) (get-set_same world.calls number (of_book_call true (Some at) (stage.Begun command)) (of_book_call false (Some at) (stage.Begun command)) is)
            ∙ sym (ap (λ (o : Option ℕ). lock.entries ++ option_map_or due_in_book (option_and_then (slice_get world.calls) o) []) f))
            refl refl
            (λ own is_named known. record {
              admitted = known.admitted;
              book = known.book;
              account = known.account;
              bookless = λ e. absurd (none-some at (sym e));
              accountless = known.accountless;
              at = known.at;
            }))

        found : (o : Option (Lock BookEntry)) → slice_get world.books at ≡ o → HoldsNow (changed world number (option_and_then (take_book number (of_book_call false (Some at) (stage.Begun command))) o))
        found None e = holds
        found (Some lock) e = free lock e lock.holder refl
    takes_book has_book book (stage.Ordered carried) is = holds
    takes_book has_book book (stage.Netting netting) is = holds
    takes_book has_book book (stage.Stating stating) is = holds
    takes_book has_book book stage.Ended is = holds

  -- ---- putting

  module _ (book : Option ℕ) (has_book : Bool) (start : ℕ) where
    abbrev pub of_account_call : Bool → Option ℕ → Stage → RunningCall
    of_account_call has_account account stage = record { book = book; account = account; has_book = has_book; has_account = has_account; begin = start; stage = stage }

    pub puts_account : (has_account : Bool) (account : Option ℕ) (s : Stage) → slice_get world.calls number ≡ Some (of_account_call has_account account s)
        → HoldsNow (changed world number (change_by world number (of_account_call has_account account s) action.PutAccount))
    puts_account false account s is = holds
    puts_account true account (stage.Waiting command) is = holds
    puts_account true account (stage.Begun command) is = holds
    puts_account true None (stage.Ordered carried) is = holds
    puts_account true (Some at) (stage.Ordered carried) is = found (slice_get world.accounts at) refl
      where
        found : (o : Option (Lock AccountEntry)) → slice_get world.accounts at ≡ o
            → HoldsNow (changed world number (option_map (put_account (of_account_call true (Some at) (stage.Ordered carried)) carried) o))
        found None e = holds
        found (Some lock) here =
            let new : Lock AccountEntry = record { holder = None; entries = lock.entries ++ in_account carried } in
            let mine : lock.holder ≡ Some number =
            sym (ap (option_and_then (λ (l : Lock AccountEntry). l.holder)) here) ∙ holds.accounts.holding number (of_account_call true (Some at) (stage.Ordered carried)) at is refl in
            subst HoldsNow (sym (account_changed world number (of_account_call false (Some at) (stage.Ordered carried)) at new refl))
            (goes_on_with_account config commands events world holds number (of_account_call true (Some at) (stage.Ordered carried)) (of_account_call false (Some at) (stage.Ordered carried)) is at lock new here
            (λ h e. sym (same_Some at h e))
            (λ h e. absurd (none-some h e))
            (λ h e. absurd (none-some h e))
            (λ h e. same_Some h number (sym e ∙ mine))
            (append-nil (lock.entries ++ in_account carried)
            ∙ sym (ap (λ (o : Option ℕ). lock.entries ++ option_map_or due_in_account (option_and_then (slice_get world.calls) o) []) mine
            ∙ ap (λ o. lock.entries ++ option_map_or due_in_account o []) is))
            refl refl
            (λ own is_named known. record {
              admitted = known.admitted;
              book = known.book;
              account = known.account;
              bookless = known.bookless;
              accountless = λ e. refl;
              at = known.at;
            }))
    puts_account true account (stage.Netting netting) is = holds
    puts_account true account (stage.Stating stating) is = holds
    puts_account true account stage.Ended is = holds

  module _ (book : Option ℕ) (has_book : Bool) (start : ℕ) where
    pub takes_account : (has_account : Bool) (account : Option ℕ) (s : Stage) → slice_get world.calls number ≡ Some (of_account_call book has_book start has_account account s)
        → HoldsNow (changed world number (change_by world number (of_account_call book has_book start has_account account s) action.TakeAccount))
    takes_account has_account account (stage.Waiting command) is = holds
    takes_account has_account account (stage.Begun command) is = given (is_none book || has_book) has_account account is
      where
        free : (at : ℕ) (lock : Lock AccountEntry) → slice_get world.calls number ≡ Some (of_account_call book has_book start false (Some at) (stage.Begun command)) → slice_get world.accounts at ≡ Some lock
            → (h : Option ℕ) → lock.holder ≡ h
            → HoldsNow (changed world number (if is_none h then Some (of_account (of_account_call book has_book start true (Some at) (stage.Begun command)) (held number lock)) else None))
        free at lock is here (Some h) f = holds
        free at lock is here None f =
            subst HoldsNow (sym (account_changed world number (of_account_call book has_book start true (Some at) (stage.Begun command)) at (held number lock) refl))
            (goes_on_with_account config commands events world holds number (of_account_call book has_book start false (Some at) (stage.Begun command))
            (of_account_call book has_book start true (Some at) (stage.Begun command)) is at lock (held number lock) here
            (λ h e. absurd (none-some h e))
            (λ h e. (sym (same_Some at h e), refl))
            (λ h e. (sym (same_Some number h e), refl))
            (λ h e. absurd (none-some h (sym f ∙ e)))
            (ap (λ o. lock.entries ++ option_map_or due_in_account o [])
            (get-set_same world.calls number (of_account_call book has_book start true (Some at) (stage.Begun command)) (of_account_call book has_book start false (Some at) (stage.Begun command)) is)
            ∙ sym (ap (λ (o : Option ℕ). lock.entries ++ option_map_or due_in_account (option_and_then (slice_get world.calls) o) []) f))
            refl refl
            (λ own is_named known. record {
              admitted = known.admitted;
              book = known.book;
              account = known.account;
              bookless = known.bookless;
              accountless = λ e. absurd (none-some at (sym e));
              at = known.at;
            }))

        found : (at : ℕ) → slice_get world.calls number ≡ Some (of_account_call book has_book start false (Some at) (stage.Begun command)) → (o : Option (Lock AccountEntry)) → slice_get world.accounts at ≡ o
            → HoldsNow (changed world number (option_and_then (take_account number (of_account_call book has_book start false (Some at) (stage.Begun command))) o))
        found at is None e = holds
        found at is (Some lock) e = free at lock is e lock.holder refl

        given : (its has : Bool) (o : Option ℕ) → slice_get world.calls number ≡ Some (of_account_call book has_book start has o (stage.Begun command))
            → HoldsNow (changed world number (option_and_then (take_account number (of_account_call book has_book start has o (stage.Begun command))) (lock_at world.accounts (if its && not has then o else None))))
        given false has o is = holds
        given true true o is = holds
        given true false None is = holds
        given true false (Some at) is = found at is (slice_get world.accounts at) refl
    takes_account has_account account (stage.Ordered carried) is = holds
    takes_account has_account account (stage.Netting netting) is = holds
    takes_account has_account account (stage.Stating stating) is = holds
    takes_account has_account account stage.Ended is = holds

  module _ (account : Option ℕ) (start : ℕ) where
    pub puts_book : (has_book has_account : Bool) (book : Option ℕ) (s : Stage) → slice_get world.calls number ≡ Some (of_book_call account has_account start has_book book s)
        → HoldsNow (changed world number (change_by world number (of_book_call account has_account start has_book book s) action.PutBook))
    puts_book false has_account book s is = holds
    puts_book true true book s is = holds
    puts_book true false book (stage.Waiting command) is = holds
    puts_book true false book (stage.Begun command) is = holds
    puts_book true false None (stage.Ordered carried) is = holds
    puts_book true false (Some at) (stage.Ordered carried) is = found (slice_get world.books at) refl
      where
        found : (o : Option (Lock BookEntry)) → slice_get world.books at ≡ o
            → HoldsNow (changed world number (option_map (put_book (of_book_call account false start true (Some at) (stage.Ordered carried)) carried) o))
        found None e = holds
        found (Some lock) here =
            let new : Lock BookEntry = record { holder = None; entries = lock.entries ++ in_book carried } in
            let call : RunningCall = of_book_call account false start true (Some at) (stage.Ordered carried) in
            let now : RunningCall = of_book_call account false start false (Some at) (stage.Ordered (record carried { event = None })) in
            let mine : lock.holder ≡ Some number =
            sym (ap (option_and_then (λ (l : Lock BookEntry). l.holder)) here) ∙ holds.books.holding number call at is refl in
            subst HoldsNow (sym (book_changed world number now at new refl))
            (goes_on_with_book config commands events world holds number call now is at lock new here
            (λ h e. sym (same_Some at h e))
            (λ h e. absurd (none-some h e))
            (λ h e. absurd (none-some h e))
            (λ h e. same_Some h number (sym e ∙ mine))
            (append-nil (lock.entries ++ in_book carried)
            ∙ sym (ap (λ (o : Option ℕ). lock.entries ++ option_map_or due_in_book (option_and_then (slice_get world.calls) o) []) mine
            ∙ ap (λ o. lock.entries ++ option_map_or due_in_book o []) is))
            refl refl
            (λ own is_named known. record {
              admitted = known.admitted;
              book = known.book;
              account = known.account;
              bookless = λ e. refl;
              accountless = known.accountless;
              at = known.at;
            }))
    puts_book true false book (stage.Netting netting) is = holds
    puts_book true false book (stage.Stating stating) is = holds
    puts_book true false book stage.Ended is = holds

  -- ---- the end

  module _ (book account : Option ℕ) (start : ℕ) where
    abbrev pub with_locks : Bool → Bool → Stage → RunningCall
    with_locks has_book has_account stage = record { book = book; account = account; has_book = has_book; has_account = has_account; begin = start; stage = stage }

    ended_now : (has_book has_account : Bool) (s : Stage) → slice_get world.calls number ≡ Some (with_locks has_book has_account s)
        → due_in_book (with_locks has_book has_account stage.Ended) ≡ due_in_book (with_locks has_book has_account s)
        → due_in_account (with_locks has_book has_account stage.Ended) ≡ due_in_account (with_locks has_book has_account s)
        → HoldsNow (changed world number (Some (end (with_locks has_book has_account s))))
    ended_now has_book has_account s is in_its_book in_its_account =
        subst HoldsNow (sym (call_changed world number (with_locks has_book has_account stage.Ended)))
        (goes_on config commands events world holds number (with_locks has_book has_account s) (with_locks has_book has_account stage.Ended) is refl in_its_book refl in_its_account
        (λ own is_named known. record {
          admitted = known.admitted;
          book = known.book;
          account = known.account;
          bookless = known.bookless;
          accountless = known.accountless;
          at = tt;
        }))

    where_told : (told : Bool) (t : ReplyDue) (given : Change) → HoldsNow (changed world number (Some given)) → HoldsNow (changed world number (option_map (λ (x : ReplyDue). given) (if told then Some t else None)))
    where_told true t given h = h
    where_told false t given h = holds

    pub ends : (has_book has_account : Bool) (s : Stage) → slice_get world.calls number ≡ Some (with_locks has_book has_account s)
        → HoldsNow (changed world number (change_by world number (with_locks has_book has_account s) action.End))
    ends has_book has_account (stage.Waiting command) is = holds
    ends has_book has_account (stage.Begun command) is = holds
    ends true has_account (stage.Ordered carried) is = holds
    ends false true (stage.Ordered carried) is = holds
    ends false false (stage.Ordered carried) is = ended_now false false (stage.Ordered carried) is refl refl
    ends has_book has_account (stage.Netting netting) is =
        where_told (is_complete netting.collection.collected) _ (end (with_locks has_book has_account (stage.Netting netting))) (ended_now has_book has_account (stage.Netting netting) is refl refl)
    ends has_book has_account (stage.Stating stating) is =
        where_told (is_complete stating.collection.collected) _ (end (with_locks has_book has_account (stage.Stating stating))) (ended_now has_book has_account (stage.Stating stating) is refl refl)
    ends has_book has_account stage.Ended is = holds
