-- A command gets its place in the order.
use Rattle.std.proofs.Common.{◌≡◌, ◌≢◌, ◌≤◌, ◌+◌, ◌||◌, ℕ, List, [], ◌∷◌, ◌++◌, Bool, true, false, if◌then◌else◌, refl, sym, ap, ap₂, subst, ◌∙◌, length, count_by, Option, None, Some, is_none, option_map, option_to_list, slice_get, slice_set, append-nil, length-append, arith, true≢false, ⊎_elim}
use Rattle.std.specs.Option.{option_map_or}
use Rattle.std.proofs.lemmas.Bool.{cases_eq}
use Rattle.std.proofs.lemmas.Option.{same_Some}
use Rattle.ocpi_types.specs.declared.config.Config.{Config}
use Rattle.ocpi_types.specs.declared.party.Party.{Party}
use Rattle.cdr_checks.specs.declared.request.Command.{Command}
use Rattle.cdr_checks.specs.Parties.{HasParties, operator_of_command, provider_of_command}
use Rattle.plain_house.specs.declared.entry.AccountEntry.{AccountEntry}
use Rattle.plain_house.specs.declared.entry.BookEntry.{BookEntry}
use Rattle.plain_house.specs.declared.event.Event.{Event}
use Rattle.plain_house.specs.Entries.{account_entries, account_entry, book_entries, book_entry, period_of}
use Rattle.plain_house.specs.House.{verdict}
use Rattle.plain_house.specs.Known.{known}
use Rattle.plain_house.specs.Own.{of_account, of_operator, own_account, own_book}
use Rattle.plain_house.specs.Replies.{stamped, with_event}
use Rattle.plain_house.specs.Verdict.{Verdict}
use Rattle.period_order.specs.Kept.{AreDistinct, Keeps, with_added}
use Rattle.period_order.specs.Order.{is_close_entry}
use Rattle.period_order.specs.Places.{operator_number, order_entry, provider_number}
use Rattle.house_core.specs.declared.running_call.RunningCall.{RunningCall}
use Rattle.house_core.specs.declared.stage.Stage.{Stage}
use Rattle.house_core.specs.declared.stage.Stage.TheVariants as stage
use Rattle.house_core.specs.Calls.{due_in_account, due_in_book, held_account, held_book}
use Rattle.house_core.specs.Calls.{collects}
use Rattle.house_core.specs.Inner.Sound.{Holds, IsAt, IsRunningCall}
use Rattle.house_core.specs.Locks.{Lock, entries_at}
use Rattle.house_core.specs.OneHouse.{IsAnswered}
use Rattle.house_core.specs.Steps.{known_to}
use Rattle.house_core.specs.World.{PlainWorld}
use Rattle.house_core.proofs.Deciding.{looks_into}
use Rattle.house_core.proofs.Folds.{with_event-append}
use Rattle.house_core.specs.Inner.HouseLaws.{HouseLaws}
use Rattle.house_core.proofs.Keeping.{kept_as}
use Rattle.house_core.proofs.Longer.{call_longer}
use Rattle.house_core.proofs.Wholes.{agree_same, get-set_other, get-set_same, grown, its_lock, its_whole, wholes, wholes_same}

-- a call that is ready holds what it needs
pub held_is : (b : Bool) (o : Option ℕ) → (o ≡ None → b ≡ false) → (is_none o || b) ≡ true → (if b then o else None) ≡ o
held_is true o none h = refl
held_is false None none h = refl
held_is false (Some n) none h = absurd (true≢false (sym h))

pub has_it : (b : Bool) (o : Option ℕ) (n : ℕ) → o ≡ Some n → (is_none o || b) ≡ true → b ≡ true
has_it b o n there h = sym (ap (λ (x : Option ℕ). is_none x || b) there) ∙ h

nothing_due : {E : Type 0} (b : Bool) (empty : List E) → empty ≡ [] → (if b then empty else []) ≡ []
nothing_due true empty h = h
nothing_due false empty h = refl

-- what is due under a lock that is held, or isn't
due_when : {E : Type 0} (b c : Bool) (entries : List E) → b ≡ c → (if b then entries else []) ≡ (if c then entries else [])
due_when b c entries h = ap (λ x. if x then entries else []) h

module _ (config : Config) (commands : List Command) (events : List Event) (world : PlainWorld) (holds : Holds config commands events world) where
  -- ---- the place of one command

  module _ (number : ℕ) (book account : Option ℕ) (has_book has_account : Bool) (begin : ℕ) (told : Command) where
    abbrev pub at_stage : Stage → RunningCall
    at_stage s = record { book = book; account = account; has_book = has_book; has_account = has_account; begin = begin; stage = s }

    abbrev pub ready_call : RunningCall
    ready_call = at_stage (stage.Begun told)

    module _ (is : slice_get world.calls number ≡ Some ready_call) (named : slice_get commands number ≡ Some told) (mine : IsRunningCall config events told ready_call)
        (ready_book : (is_none book || has_book) ≡ true) (ready_account : (is_none account || has_account) ≡ true)
        (laws : HouseLaws) (distinct : AreDistinct config) where
      parties : HasParties config told
      parties = laws.parties config told mine.admitted

      no_due_in_book : due_in_book ready_call ≡ []
      no_due_in_book = nothing_due has_book [] refl

      no_due_in_account : due_in_account ready_call ≡ []
      no_due_in_account = nothing_due has_account [] refl

      own_book_is : (operator : Party) → operator_of_command told ≡ Some operator → entries_at world.books book ≡ own_book operator (book_entries events)
      own_book_is operator own =
          let at : ℕ = operator_number config operator in
          let there : book ≡ Some at = mine.book ∙ ap (option_map (operator_number config)) own in
          let has : held_book ready_call ≡ Some at = held_is has_book book mine.bookless ready_book ∙ there in
          let found = its_lock held_book due_in_book world.books world.calls holds.books number ready_call is no_due_in_book at has in
          let whole_is = its_whole held_book due_in_book world.books world.calls holds.books number ready_call is no_due_in_book at has in
          let of_events : slice_get (wholes held_book due_in_book world.calls world.books) at ≡ Some (own_book operator (book_entries events)) =
          ap (λ l. slice_get l at) holds.kept.books_are ∙ (laws.standing config events).operator operator (parties.operator operator own) in
          ap (λ (o : Option ℕ). entries_at world.books o) there
          ∙ ap (λ (o : Option (Lock BookEntry)). option_map_or (λ l. l.entries) o []) found.1
          ∙ same_Some found.0.entries (own_book operator (book_entries events)) (sym whole_is ∙ of_events)

      own_account_is : (provider : Party) → provider_of_command told ≡ Some provider → entries_at world.accounts account ≡ own_account provider events
      own_account_is provider own =
          let at : ℕ = provider_number config provider in
          let there : account ≡ Some at = mine.account ∙ ap (option_map (provider_number config)) own in
          let has : held_account ready_call ≡ Some at = held_is has_account account mine.accountless ready_account ∙ there in
          let found = its_lock held_account due_in_account world.accounts world.calls holds.accounts number ready_call is no_due_in_account at has in
          let whole_is = its_whole held_account due_in_account world.accounts world.calls holds.accounts number ready_call is no_due_in_account at has in
          let of_events : slice_get (wholes held_account due_in_account world.calls world.accounts) at ≡ Some (own_account provider events) =
          ap (λ l. slice_get l at) holds.kept.accounts_are ∙ (laws.standing config events).provider provider (parties.provider provider own) in
          ap (λ (o : Option ℕ). entries_at world.accounts o) there
          ∙ ap (λ (o : Option (Lock AccountEntry)). option_map_or (λ l. l.entries) o []) found.1
          ∙ same_Some found.0.entries (own_account provider events) (sym whole_is ∙ of_events)

      pub at_point : length world.order ≡ length events
      at_point = ap length holds.kept.order_is ∙ (laws.counted config events).entries

      pub in_period : count_by is_close_entry world.order ≡ period_of events
      in_period = ap (count_by is_close_entry) holds.kept.order_is ∙ (laws.counted config events).closes

      -- the verdict by what is known to the call is that of all events
      pub decided_alike : collects told ≡ false → verdict config (known_to world ready_call) told ≡ verdict config (known events) told
      decided_alike entry =
          looks_into config told (entries_at world.books book) (of_operator (operator_of_command told) (book_entries events))
          (entries_at world.accounts account) (of_account (provider_of_command told) (account_entries events)) (length world.order) (count_by is_close_entry world.order) entry
          (λ operator own. own_book_is operator own ∙ sym (ap (λ (o : Option Party). of_operator o (book_entries events)) own))
          (λ provider own. own_account_is provider own ∙ sym (ap (λ (o : Option Party). of_account o (account_entries events)) own))
          ∙ ap₂ (λ (point period : ℕ). verdict config (record { book = of_operator (operator_of_command told) (book_entries events); account = of_account (provider_of_command told) (account_entries events); point = point; period = period }) told) at_point in_period
          ∙ laws.own config events told holds.kept.legal

      -- the reply of the last point
      pub answered_last : (judged : Verdict) → verdict config (known events) told ≡ judged
          → IsAnswered config (with_event events judged.event) told begin (length (with_event events judged.event)) (length events) (stamped (length events) judged.reply)
      answered_last judged is_judged =
          let added : Option Event = judged.event in
          let given : (verdict config (known events) told).event ≡ added = ap (λ (v : Verdict). v.event) is_judged in
          let long : length (with_event events added) ≡ length events + length (option_to_list added) =
          ap length (with_event-append events added) ∙ length-append events (option_to_list added) in
          let same : length (option_to_list (verdict config (known events) told).event) ≡ length (option_to_list added) = ap (λ (o : Option Event). length (option_to_list o)) given in
          let within : begin ≤ length events = mine.at.1 in
          record {
            before = events;
            later = [];
            split = with_event-append events added ∙ ap (λ (l : List Event). events ++ l) (sym (append-nil (option_to_list added)) ∙ ap (λ (o : Option Event). option_to_list o ++ []) (sym given));
            at = refl;
            replied = ap (λ (v : Verdict). stamped (length events) v.reply) (sym is_judged);
            begun = within;
            ended = omega (arith, long, same);
          }

      -- ---- the call behind its place, at a stage in which it carries the event, if there is one

      abbrev period_now : ℕ
      period_now = count_by is_close_entry world.order

      abbrev pub in_book_of : Option Event → List BookEntry
      in_book_of event = option_map_or (λ e. book_entry e period_now) event []

      abbrev pub in_account_of : Option Event → List AccountEntry
      in_account_of event = option_map_or (λ e. account_entry e period_now) event []

      abbrev pub world_with : Stage → Option Event → PlainWorld
      world_with s event = record {
        config = world.config;
        books = world.books;
        accounts = world.accounts;
        order = world.order ++ option_to_list (option_map (order_entry config (length (entries_at world.books book)) (length (entries_at world.accounts account))) event);
        calls = slice_set world.calls number (at_stage s);
      }

      module _ (s : Stage) where
        abbrev now : RunningCall
        now = at_stage s

        is_call_now : (event : Option Event) → IsAt config (with_event events event) told begin s → IsRunningCall config (with_event events event) told now
        is_call_now event at = record {
          admitted = mine.admitted;
          book = mine.book;
          account = mine.account;
          bookless = mine.bookless;
          accountless = mine.accountless;
          at = at;
        }

        call_after : (event : Option Event) (command : Command) (other : RunningCall) → IsRunningCall config events command other → IsRunningCall config (with_event events event) command other
        call_after None command other h = h
        call_after (Some e) command other h = call_longer laws.stay config events (e ∷ []) command other h

        calls_now : (event : Option Event) → IsAt config (with_event events event) told begin s → (n : ℕ) (other : RunningCall) → slice_get (slice_set world.calls number now) n ≡ Some other
            → (command : Command) × (slice_get commands n ≡ Some command) × IsRunningCall config (with_event events event) command other
        calls_now event at n other there = ⊎_elim
            (λ (same : n ≡ number).
            let it : now ≡ other = same_Some now other (sym (get-set_same world.calls number now ready_call is) ∙ ap (slice_get (slice_set world.calls number now)) (sym same) ∙ there) in
            (told, ap (slice_get commands) same ∙ named, subst (IsRunningCall config (with_event events event) told) it (is_call_now event at)))
            (λ (apart : n ≢ number).
            let old = holds.calls n other (sym (get-set_other world.calls number n now apart) ∙ there) in
            (old.0, old.1, call_after event old.0 other old.2))
            (cases_eq n number)

        kept_now : (event : Option Event) → (verdict config (known events) told).event ≡ event
            → due_in_book now ≡ (if has_book then in_book_of event else []) → due_in_account now ≡ (if has_account then in_account_of event else [])
            → Keeps config (wholes held_book due_in_book (slice_set world.calls number now) world.books)
            (wholes held_account due_in_account (slice_set world.calls number now) world.accounts) (world_with s event).order (with_event events event)
        kept_now None e for_book for_account =
            let same : Keeps config (wholes held_book due_in_book (slice_set world.calls number now) world.books)
            (wholes held_account due_in_account (slice_set world.calls number now) world.accounts) world.order events =
            kept_as config (wholes held_book due_in_book world.calls world.books) (wholes held_book due_in_book (slice_set world.calls number now) world.books)
            (wholes held_account due_in_account world.calls world.accounts) (wholes held_account due_in_account (slice_set world.calls number now) world.accounts) world.order events holds.kept
            (wholes_same held_book due_in_book world.books world.calls holds.books number ready_call now is refl (for_book ∙ nothing_due has_book [] refl ∙ sym no_due_in_book))
            (wholes_same held_account due_in_account world.accounts world.calls holds.accounts number ready_call now is refl (for_account ∙ nothing_due has_account [] refl ∙ sym no_due_in_account)) in
            subst (λ o. Keeps config (wholes held_book due_in_book (slice_set world.calls number now) world.books) (wholes held_account due_in_account (slice_set world.calls number now) world.accounts) o events)
            (sym (append-nil world.order)) same
        kept_now (Some added) given for_book for_account =
            let books_before : List (List BookEntry) = wholes held_book due_in_book world.calls world.books in
            let accounts_before : List (List AccountEntry) = wholes held_account due_in_account world.calls world.accounts in
            kept_as config
            (with_added books_before (option_map (operator_number config) (operator_of_command told)) (book_entry added period_now))
            (wholes held_book due_in_book (slice_set world.calls number now) world.books)
            (with_added accounts_before (option_map (provider_number config) (provider_of_command told)) (account_entry added period_now))
            (wholes held_account due_in_account (slice_set world.calls number now) world.accounts)
            (world_with s (Some added)).order (events ++ added ∷ [])
            (laws.kept config books_before accounts_before world.order events told added (length (entries_at world.books book)) (length (entries_at world.accounts account))
            distinct holds.kept mine.admitted given
            (record { book = λ operator own. ap length (own_book_is operator own); account = λ provider own. ap length (own_account_is provider own) }))
            (grown held_book due_in_book world.books world.calls holds.books number ready_call is no_due_in_book now refl (book_entry added period_now)
            (option_map (operator_number config) (operator_of_command told)) (held_is has_book book mine.bookless ready_book ∙ mine.book)
            (λ none. for_book ∙ due_when has_book false (book_entry added period_now) (mine.bookless (mine.book ∙ none)))
            (λ at some. for_book ∙ due_when has_book true (book_entry added period_now) (has_it has_book book at (mine.book ∙ some) ready_book)))
            (grown held_account due_in_account world.accounts world.calls holds.accounts number ready_call is no_due_in_account now refl (account_entry added period_now)
            (option_map (provider_number config) (provider_of_command told)) (held_is has_account account mine.accountless ready_account ∙ mine.account)
            (λ none. for_account ∙ due_when has_account false (account_entry added period_now) (mine.accountless (mine.account ∙ none)))
            (λ at some. for_account ∙ due_when has_account true (account_entry added period_now) (has_it has_account account at (mine.account ∙ some) ready_account)))

        -- what holds, holds with the event once the command has its place
        pub holds_with : (event : Option Event) → (verdict config (known events) told).event ≡ event
            → due_in_book now ≡ (if has_book then in_book_of event else []) → due_in_account now ≡ (if has_account then in_account_of event else [])
            → IsAt config (with_event events event) told begin s → Holds config commands (with_event events event) (world_with s event)
        holds_with event given for_book for_account at = record {
          config_is = holds.config_is;
          kept = kept_now event given for_book for_account;
          books = agree_same held_book due_in_book world.books world.calls holds.books number ready_call now is refl;
          accounts = agree_same held_account due_in_account world.accounts world.calls holds.accounts number ready_call now is refl;
          calls = calls_now event at;
        }
