use Rattle.std.proofs.Common.{◌≡◌, ◌<◌, ℕ, List, [], ◌∷◌, ◌++◌, Option, length, slice_get, count_by, ap, ap₂, sym, subst, ◌∙◌, IfSome}
use Rattle.std.specs.Option.{option_and_then}
use Rattle.operator_book.specs.State.{PlainBook}
use Rattle.provider_account.specs.State.{PlainAccount}
use Rattle.plain_house.specs.declared.event.Event.{Event}
use Rattle.plain_house.specs.Entries.{account_entry, book_entry}
use Rattle.period_order.specs.Decided.{account_length, book_length}
use Rattle.period_order.specs.Inner.EventParties.{account_of_event, book_of_event}
use Rattle.period_order.specs.Inner.Gives.{AccountGivesAt}
use Rattle.period_order.specs.Inner.Kept.{AccountTakesAt, BookTakesAt}
use Rattle.period_order.specs.Kept.{with_added}
use Rattle.period_order.specs.Order.{current_of, is_close_entry}
use Rattle.period_order.specs.Places.{order_entry}
use Rattle.period_order.specs.Resolved.{entries_of_accounts, entries_of_books}
use Rattle.period_order.proofs.EachLemmas.{account_still_takes, book_still_takes}
use Rattle.period_order.proofs.GivesLemmas.{is_taken}
use Rattle.period_order.proofs.EntryBooksLemmas.{keeps_given, last_given}
use Rattle.period_order.proofs.PerformLemmas.{kept_still}
use Rattle.period_order.proofs.entry_books.put.put.Goals as goal

pub add-requires-clause-book_takes : goal.add-requires-clause-book_takes
add-requires-clause-book_takes c =
    let number = c.book_of_event-book.result in
    let e = c.args.event.now in
    subst (λ (e : Event). BookTakesAt c.reserve.new.books.items number e) (sym c.in_ok-event.ensures)
    (book_still_takes c.args.books.now.items c.reserve.new.books.items number e c.reserve.ensures.books
    (subst (λ (l : List PlainBook). BookTakesAt l number e) c.as_slice.ensures.value (c.book_takes.ensures.takes c.if-not-book_takes.false)))

pub add-requires-clause-account_takes : goal.add-requires-clause-account_takes
add-requires-clause-account_takes c =
    let number = c.account_of_event-account.result in
    let period = c.current-period.result in
    let e = c.args.event.now in
    let now : period ≡ current_of c.reserve.new.order = c.current-period.ensures ∙ ap (count_by is_close_entry) (sym c.reserve.ensures.order) in
    subst (λ (e : Event). AccountTakesAt c.reserve.new.accounts.items number (current_of c.reserve.new.order) e) (sym c.in_ok-event.ensures)
    (subst (λ (n : ℕ). AccountTakesAt c.reserve.new.accounts.items number n e) now
    (account_still_takes c.args.accounts.now.items c.reserve.new.accounts.items number period e c.reserve.ensures.accounts
    (subst (λ (l : List PlainAccount). AccountTakesAt l number period e) c.as_slice-2.ensures.value (c.account_takes.ensures.takes c.if-not-account_takes.false))))

pub returns-clause-put : goal.returns-clause-put
returns-clause-put c = λ told events keeps legal.
    let config = c.args.config.now in
    let books = c.reserve.new.books.items in
    let accounts = c.reserve.new.accounts.items in
    let order = c.reserve.new.order in
    let e = c.args.event.now in
    let before = kept_still config _ _ _ _ _ _ events keeps c.reserve.ensures.books c.reserve.ensures.accounts c.reserve.ensures.order in
    let now_books = c.add.ensures.books
    ∙ ap₂ (λ (o : Option ℕ) (x : Event). with_added (entries_of_books books) o (book_entry x (current_of order))) c.book_of_event-book.ensures c.in_ok-event.ensures in
    let now_accounts = c.add.ensures.accounts
    ∙ ap₂ (λ (o : Option ℕ) (x : Event). with_added (entries_of_accounts accounts) o (account_entry x (current_of order))) c.account_of_event-account.ensures c.in_ok-event.ensures in
    let now_order = c.add.ensures.order
    ∙ ap₂ (λ (o p : Option ℕ). order.entries ++ order_entry config (book_length (option_and_then (slice_get books) o)) (account_length (option_and_then (slice_get accounts) p)) c.in_ok-event.event ∷ [])
    c.book_of_event-book.ensures c.account_of_event-account.ensures
    ∙ ap (λ (x : Event). order.entries ++ order_entry config (book_length (option_and_then (slice_get books) (book_of_event config e)))
    (account_length (option_and_then (slice_get accounts) (account_of_event config e))) x ∷ []) c.in_ok-event.ensures in
    keeps_given config books accounts order events before e c.commands_have_parties.ensures c.events_are_of_their_command.ensures c.events_are_kept.ensures
    (record { operators = c.has_distinct_parts.ensures.operators; providers = c.has_distinct_parts.ensures.providers }) legal _ _ _ now_books now_accounts now_order

pub returns-then-not-book_takes-clause-legal : goal.returns-then-not-book_takes-clause-legal
returns-then-not-book_takes-clause-legal c = λ told keeps legal.
    let config = c.args.config.now in
    let books = c.args.books.now.items in
    let e = c.args.event.now in
    let taken = is_taken config books c.args.accounts.now.items c.args.order.now told keeps e c.commands_have_parties.ensures
    c.events_are_of_their_command.ensures c.verdicts_are_of_own_entries.ensures (last_given config told e legal) in
    let number = sym c.book_of_event-book.ensures in
    let slice = sym c.as_slice.ensures.value in
    c.if-not-book_takes.ensures.taken
    (subst (λ (l : List PlainBook). IfSome c.book_of_event-book.result (λ n. n < length l)) slice
    (subst (λ (o : Option ℕ). IfSome o (λ n. n < length books)) number taken.in_books))
    (subst (λ (l : List PlainBook). BookTakesAt l c.book_of_event-book.result e) slice
    (subst (λ (o : Option ℕ). BookTakesAt books o e) number taken.book))

pub returns-then-not-account_takes-clause-legal : goal.returns-then-not-account_takes-clause-legal
returns-then-not-account_takes-clause-legal c = λ told keeps legal.
    let config = c.args.config.now in
    let accounts = c.args.accounts.now.items in
    let order = c.args.order.now in
    let e = c.args.event.now in
    let taken = is_taken config c.args.books.now.items accounts order told keeps e c.commands_have_parties.ensures
    c.events_are_of_their_command.ensures c.verdicts_are_of_own_entries.ensures (last_given config told e legal) in
    let number = sym c.account_of_event-account.ensures in
    let slice = sym c.as_slice-2.ensures.value in
    c.if-not-account_takes.ensures.given
    (subst (λ (l : List PlainAccount). IfSome c.account_of_event-account.result (λ n. n < length l)) slice
    (subst (λ (o : Option ℕ). IfSome o (λ n. n < length accounts)) number taken.in_accounts))
    (subst (λ (n : ℕ). AccountGivesAt config c.as_slice-2.result.now c.account_of_event-account.result n e) (sym c.current-period.ensures)
    (subst (λ (l : List PlainAccount). AccountGivesAt config l c.account_of_event-account.result (current_of order) e) slice
    (subst (λ (o : Option ℕ). AccountGivesAt config accounts o (current_of order) e) number taken.account)))
