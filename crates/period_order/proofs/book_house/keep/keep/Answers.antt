use Rattle.std.specs.Option.{option_and_then, option_copied}
use Rattle.std.proofs.Common.{slice_get, ◌≡◌, ◌<◌, ℕ, List, Option, None, Some, IfSome, is_some, length, refl, ap, ap₂, sym, subst, ◌∙◌}
use Rattle.cdr_checks.specs.Parties.{HasParties}
use Rattle.plain_house.specs.Entries.{account_entry, book_entry}
use Rattle.plain_house.specs.House.{events_after}
use Rattle.plain_house.specs.Replies.{with_event}
use Rattle.operator_book.specs.State.{PlainBook}
use Rattle.provider_account.specs.State.{PlainAccount}
use Rattle.plain_house.specs.declared.event.Event.{Event}
use Rattle.period_order.specs.Decided.{AccountTakesAny, BookTakesAny, Decides, event_of}
use Rattle.period_order.specs.Kept.{Keeps, account_number, book_number}
use Rattle.period_order.specs.Order.{current_of}
use Rattle.period_order.specs.Inner.Kept.{AccountTakesAt, AreKept, BookTakesAt, with_event_added}
use Rattle.period_order.specs.Resolved.{entries_of_accounts, entries_of_books}
use Rattle.period_order.proofs.EachLemmas.{account_within, book_within, is_given_account, is_given_book, length_event_added}
use Rattle.period_order.proofs.JudgingLemmas.{has_parties}
use Rattle.period_order.proofs.PerformLemmas.{decides_given, event_reached, keeps_put, kept_still, ordered_given, some_copied}
use Rattle.period_order.proofs.ReachedLemmas.{reached}
use Rattle.period_order.proofs.book_house.keep.keep.Goals as goal
use Rattle.period_order.proofs.book_house.keep.keep.Goals.{After-put}

pub reserve-requires-clause-book : goal.reserve-requires-clause-book
reserve-requires-clause-book c =
    let parties = has_parties c.args.config.now c.args.base.now c.requires.judges c.args.command (c.commands_have_parties.ensures c.args.config.now c.args.command c.requires.admitted) in
    subst (λ (o : Option ℕ). IfSome o (λ n. n < length c.args.books.now.items)) (sym c.book_number-book.ensures)
    (book_within c.args.base.now c.args.command parties c.args.books.now.items c.requires.each.of_operators)

pub reserve-requires-clause-account : goal.reserve-requires-clause-account
reserve-requires-clause-account c =
    let parties = has_parties c.args.config.now c.args.base.now c.requires.judges c.args.command (c.commands_have_parties.ensures c.args.config.now c.args.command c.requires.admitted) in
    subst (λ (o : Option ℕ). IfSome o (λ n. n < length c.args.accounts.now.items)) (sym c.account_number-account.ensures)
    (account_within c.args.base.now c.args.command parties c.args.accounts.now.items c.requires.each.of_providers)

pub decide-point-requires-clause-book : goal.decide-point-requires-clause-book
decide-point-requires-clause-book c =
    let parties = has_parties c.args.config.now c.args.base.now c.requires.judges c.args.command (c.commands_have_parties.ensures c.args.config.now c.args.command c.requires.admitted) in
    some_copied c.book_at-given_book.result
    ∙ ap is_some (c.book_at-given_book.ensures ∙ ap₂ (λ l (o : Option ℕ). option_and_then (slice_get l) o) c.as_slice.ensures.value c.book_number-book.ensures)
    ∙ is_given_book c.args.base.now c.args.command parties c.reserve.new.books.items (ap length c.reserve.ensures.books ∙ c.requires.each.of_operators)

pub decide-point-requires-clause-account : goal.decide-point-requires-clause-account
decide-point-requires-clause-account c =
    let parties = has_parties c.args.config.now c.args.base.now c.requires.judges c.args.command (c.commands_have_parties.ensures c.args.config.now c.args.command c.requires.admitted) in
    some_copied c.account_at-given_account.result
    ∙ ap is_some (c.account_at-given_account.ensures ∙ ap₂ (λ l (o : Option ℕ). option_and_then (slice_get l) o) c.as_slice-2.ensures.value c.account_number-account.ensures)
    ∙ is_given_account c.args.base.now c.args.command parties c.reserve.new.accounts.items (ap length c.reserve.ensures.accounts ∙ c.requires.each.of_providers)

pub put-requires-clause-book : goal.put-requires-clause-book
put-requires-clause-book c =
    let parties = has_parties c.args.config.now c.args.base.now c.requires.judges c.args.command (c.commands_have_parties.ensures c.args.config.now c.args.command c.requires.admitted) in
    subst (λ (o : Option ℕ). IfSome o (λ n. n < length c.reserve.new.books.items)) (sym c.book_number-book.ensures)
    (book_within c.args.base.now c.args.command parties c.reserve.new.books.items (ap length c.reserve.ensures.books ∙ c.requires.each.of_operators))

pub put-requires-clause-account : goal.put-requires-clause-account
put-requires-clause-account c =
    let parties = has_parties c.args.config.now c.args.base.now c.requires.judges c.args.command (c.commands_have_parties.ensures c.args.config.now c.args.command c.requires.admitted) in
    subst (λ (o : Option ℕ). IfSome o (λ n. n < length c.reserve.new.accounts.items)) (sym c.account_number-account.ensures)
    (account_within c.args.base.now c.args.command parties c.reserve.new.accounts.items (ap length c.reserve.ensures.accounts ∙ c.requires.each.of_providers))

pub returns-clause-each : goal.returns-clause-each
returns-clause-each c = record {
  of_operators =
      ap length c.put.ensures.books
      ∙ length_event_added (entries_of_books c.reserve.new.books.items) c.book_number-book.result (λ e. book_entry e c.decide-point.result.period) c.parted-outcome.result.1
      ∙ ap length c.reserve.ensures.books ∙ c.requires.each.of_operators;
  of_providers =
      ap length c.put.ensures.accounts
      ∙ length_event_added (entries_of_accounts c.reserve.new.accounts.items) c.account_number-account.result (λ e. account_entry e c.decide-point.result.period) c.parted-outcome.result.1
      ∙ ap length c.reserve.ensures.accounts ∙ c.requires.each.of_providers;
}

-- the events that are kept before the command has its place in the order
abbrev Before : (c : After-put) → List Event → Type 0
Before c events = AreKept c.args.base.now c.args.books.now.items c.args.accounts.now.items c.args.order.now events

abbrev before : (c : After-put) (events : List Event) → Before c events
    → Keeps c.args.base.now (entries_of_books c.reserve.new.books.items) (entries_of_accounts c.reserve.new.accounts.items) c.reserve.new.order.entries events
before c events keeps = kept_still c.args.base.now _ _ _ _ _ _ _ keeps c.reserve.ensures.books c.reserve.ensures.accounts c.reserve.ensures.order

parties : (c : After-put) → HasParties c.args.base.now c.args.command
parties c = has_parties c.args.config.now c.args.base.now c.requires.judges c.args.command (c.commands_have_parties.ensures c.args.config.now c.args.command c.requires.admitted)

book_is : (c : After-put) → option_copied c.book_at-given_book.result ≡ option_and_then (slice_get c.reserve.new.books.items) (book_number c.args.base.now c.args.command)
book_is c = c.book_at-given_book.ensures ∙ ap₂ (λ l (o : Option ℕ). option_and_then (slice_get l) o) c.as_slice.ensures.value c.book_number-book.ensures

account_is : (c : After-put) → option_copied c.account_at-given_account.result ≡ option_and_then (slice_get c.reserve.new.accounts.items) (account_number c.args.base.now c.args.command)
account_is c = c.account_at-given_account.ensures ∙ ap₂ (λ l (o : Option ℕ). option_and_then (slice_get l) o) c.as_slice-2.ensures.value c.account_number-account.ensures

decides : (c : After-put) → Decides c.args.config.now (option_and_then (slice_get c.reserve.new.books.items) (book_number c.args.base.now c.args.command))
    (option_and_then (slice_get c.reserve.new.accounts.items) (account_number c.args.base.now c.args.command)) c.reserve.new.order c.args.command c.decide-point.result.outcome
decides c =
    decides_given c.args.base.now c.args.config.now c.reserve.new.books.items c.reserve.new.accounts.items c.reserve.new.order c.args.command _ _ c.decide-point.result.outcome c.decide-point.result.outcome (book_is c) (account_is c) refl c.decide-point.ensures.outcome

-- and behind it
after : (c : After-put) (events : List Event) → Before c events
    → Keeps c.args.base.now (entries_of_books c.put.new.books.items) (entries_of_accounts c.put.new.accounts.items) c.decide-point.new.order.entries
    (with_event events (event_of c.decide-point.result.outcome))
after c events keeps =
    let judge = c.args.config.now in
    let config = c.args.base.now in
    let books = c.reserve.new.books.items in
    let accounts = c.reserve.new.accounts.items in
    let order = c.reserve.new.order in
    let told = c.args.command in
    let reached = c.decide-point.result.outcome in
    let ordered = ordered_given config judge books accounts order told _ _ reached reached _ (book_is c) (account_is c) refl c.decide-point.ensures.order in
    let now_books = c.put.ensures.books
    ∙ ap₂ (λ (o : Option ℕ) n. with_event_added (entries_of_books books) o (λ e. book_entry e n) c.parted-outcome.result.1) c.book_number-book.ensures c.decide-point.ensures.period
    ∙ ap (with_event_added (entries_of_books books) (book_number config told) (λ e. book_entry e (current_of order))) c.parted-outcome.ensures.event in
    let now_accounts = c.put.ensures.accounts
    ∙ ap₂ (λ (o : Option ℕ) n. with_event_added (entries_of_accounts accounts) o (λ e. account_entry e n) c.parted-outcome.result.1) c.account_number-account.ensures c.decide-point.ensures.period
    ∙ ap (with_event_added (entries_of_accounts accounts) (account_number config told) (λ e. account_entry e (current_of order))) c.parted-outcome.ensures.event in
    keeps_put config books accounts order events (before c events keeps) told (parties c) judge reached (decides c) c.judged_by_own_entries.ensures _ _ _ c.requires.judges
    c.events_are_of_their_command.ensures c.commands_keep_lists_legal.ensures c.requires.admitted c.has_distinct_parts.ensures.operators c.has_distinct_parts.ensures.providers now_books now_accounts ordered

-- the event is that of the verdict
now_is : (c : After-put) (events : List Event) → Before c events
    → events_after c.args.config.now events c.args.command ≡ with_event events (event_of c.decide-point.result.outcome)
now_is c events keeps =
    ap (with_event events)
    (event_reached c.args.base.now c.reserve.new.books.items c.reserve.new.accounts.items c.reserve.new.order events (before c events keeps) c.args.command (parties c)
    c.args.config.now c.decide-point.result.outcome (decides c) c.judged_by_own_entries.ensures)

pub returns-clause-kept : goal.returns-clause-kept
returns-clause-kept c = λ events keeps.
    subst (Keeps c.args.base.now (entries_of_books c.put.new.books.items) (entries_of_accounts c.put.new.accounts.items) c.decide-point.new.order.entries)
    (sym (now_is c events keeps)) (after c events keeps)

pub returns-clause-ok : goal.returns-clause-ok
returns-clause-ok c = λ events keeps.
    reached c.args.base.now c.reserve.new.books.items c.reserve.new.accounts.items c.reserve.new.order events (before c events keeps) c.args.command (parties c) c.args.config.now c.decide-point.result.outcome (decides c)
    c.judged_by_own_entries.ensures c.requires.judges c.entries_are_dated.ensures
    (record { point = c.decide-point.result.point; period = c.decide-point.result.period; outcome = c.parted-outcome.result.0 }) _
    c.decide-point.ensures.point c.parted-outcome.ensures.left (now_is c events keeps)

takes_in_book : (books : List PlainBook) (number : Option ℕ) (event : Option Event) → BookTakesAny (option_and_then (slice_get books) number) event → IfSome event (λ e. BookTakesAt books number e)
takes_in_book books number None takes = tt
takes_in_book books None (Some event) takes = tt
takes_in_book books (Some number) (Some event) takes = λ book found. subst (λ (o : Option PlainBook). BookTakesAny o (Some event)) found takes

takes_in_account : (accounts : List PlainAccount) (number : Option ℕ) (period : ℕ) (event : Option Event) → AccountTakesAny (option_and_then (slice_get accounts) number) period event
    → IfSome event (λ e. AccountTakesAt accounts number period e)
takes_in_account accounts number period None takes = tt
takes_in_account accounts None period (Some event) takes = tt
takes_in_account accounts (Some number) period (Some event) takes = λ account found. subst (λ (o : Option PlainAccount). AccountTakesAny o period (Some event)) found takes

pub put-requires-clause-book_takes : goal.put-requires-clause-book_takes
put-requires-clause-book_takes c =
    let given = c.book_at-given_book.ensures ∙ ap (λ (l : List PlainBook). option_and_then (slice_get l) c.book_number-book.result) c.as_slice.ensures.value in
    takes_in_book c.reserve.new.books.items c.book_number-book.result c.parted-outcome.result.1
    (subst (λ (o : Option Event). BookTakesAny (option_and_then (slice_get c.reserve.new.books.items) c.book_number-book.result) o) (sym c.parted-outcome.ensures.event)
    (subst (λ (o : Option PlainBook). BookTakesAny o (event_of c.decide-point.result.outcome)) given c.decide-point.ensures.outcome.in_book))

pub put-requires-clause-account_takes : goal.put-requires-clause-account_takes
put-requires-clause-account_takes c =
    let given = c.account_at-given_account.ensures ∙ ap (λ (l : List PlainAccount). option_and_then (slice_get l) c.account_number-account.result) c.as_slice-2.ensures.value in
    takes_in_account c.reserve.new.accounts.items c.account_number-account.result c.decide-point.result.period c.parted-outcome.result.1
    (subst (λ (o : Option Event). AccountTakesAny (option_and_then (slice_get c.reserve.new.accounts.items) c.account_number-account.result) c.decide-point.result.period o) (sym c.parted-outcome.ensures.event)
    (subst (λ n. AccountTakesAny (option_and_then (slice_get c.reserve.new.accounts.items) c.account_number-account.result) n (event_of c.decide-point.result.outcome)) (sym c.decide-point.ensures.period)
    (subst (λ (o : Option PlainAccount). AccountTakesAny o (current_of c.reserve.new.order) (event_of c.decide-point.result.outcome)) given c.decide-point.ensures.outcome.in_account)))
