-- What one event more adds to the counts of the order, of a book and of an account.
use Rattle.std.proofs.Common.{◌≡◌, ℕ, ◌+◌, List, [], ◌∷◌, ◌++◌, Bool, cond, refl, ap, ◌∙◌, arith, length, count_by, unsigned_abs, Option, None, Some, option_map, length-append}
use Rattle.std.proofs.lemmas.List.Sums.{sum_by-append, sum_by_push}
use Rattle.ocpi_types.specs.declared.config.Config.{Config}
use Rattle.operator_book.specs.State.{PlainBook}
use Rattle.provider_account.specs.State.{PlainAccount}
use Rattle.plain_house.specs.declared.entry.AccountEntry.{AccountEntry}
use Rattle.plain_house.specs.declared.entry.BookEntry.{BookEntry}
use Rattle.plain_house.specs.declared.event.Event.{Event}
use Rattle.plain_house.specs.declared.event.Event.TheVariants as event
use Rattle.plain_house.specs.Entries.{account_entry, book_entry}
use Rattle.period_order.specs.declared.decided.Outcome.{Outcome}
use Rattle.period_order.specs.Decided.{account_length, book_length, event_of, order_with, with_entry}
use Rattle.period_order.specs.Order.{PlainOrder, names_account, names_book}
use Rattle.period_order.specs.Places.{order_entry}
use Rattle.shared_house.specs.Inner.Outcomes.{account_with, book_with, with_room}
use Rattle.shared_house.specs.declared.ledgers.tally.Tally.{Tally}
use Rattle.shared_house.specs.Counts.{total_of_account, total_of_book}
use Rattle.shared_house.specs.Inner.Tallies.{tally_of, tally_of_event}

count_push : {X : Type 0} (p : X → Bool) (xs : List X) (x : X) → count_by p (xs ++ x ∷ []) ≡ count_by p xs + cond (p x) 1 0
count_push p xs x = sum_by_push (λ y. cond (p y) 1 0) xs x

-- ---- the order

books_entry : (config : Config) (n m : ℕ) (e : Event) → cond (names_book (order_entry config n m e)) 1 0 ≡ (tally_of_event (Some e)).books
books_entry config n m (event.Tariff tariff) = refl
books_entry config n m (event.Token token) = refl
books_entry config n m (event.Authorised hold) = refl
books_entry config n m (event.Released release) = refl
books_entry config n m (event.Cdr cdr cost) = refl
books_entry config n m (event.Credit cdr amount) = refl
books_entry config n m (event.Settled settlement) = refl
books_entry config n m (event.Closed period) = refl

accounts_entry : (config : Config) (n m : ℕ) (e : Event) → cond (names_account (order_entry config n m e)) 1 0 ≡ (tally_of_event (Some e)).accounts
accounts_entry config n m (event.Tariff tariff) = refl
accounts_entry config n m (event.Token token) = refl
accounts_entry config n m (event.Authorised hold) = refl
accounts_entry config n m (event.Released release) = refl
accounts_entry config n m (event.Cdr cdr cost) = refl
accounts_entry config n m (event.Credit cdr amount) = refl
accounts_entry config n m (event.Settled settlement) = refl
accounts_entry config n m (event.Closed period) = refl

pub events_entry : (e : Event) → 1 ≡ (tally_of_event (Some e)).events
events_entry (event.Tariff tariff) = refl
events_entry (event.Token token) = refl
events_entry (event.Authorised hold) = refl
events_entry (event.Released release) = refl
events_entry (event.Cdr cdr cost) = refl
events_entry (event.Credit cdr amount) = refl
events_entry (event.Settled settlement) = refl
events_entry (event.Closed period) = refl

module _ (config : Config) (book : Option PlainBook) (account : Option PlainAccount) (order : PlainOrder) where
  abbrev behind : Option Event → PlainOrder
  behind e = with_entry order (option_map (order_entry config (book_length book) (account_length account)) e)

  by_books : (e : Option Event) → count_by names_book (behind e).entries ≡ count_by names_book order.entries + (tally_of_event e).books
  by_books None = omega arith
  by_books (Some e) =
      let x = order_entry config (book_length book) (account_length account) e in
      count_push names_book order.entries x ∙ ap (λ n. count_by names_book order.entries + n) (books_entry config (book_length book) (account_length account) e)

  by_accounts : (e : Option Event) → count_by names_account (behind e).entries ≡ count_by names_account order.entries + (tally_of_event e).accounts
  by_accounts None = omega arith
  by_accounts (Some e) =
      let x = order_entry config (book_length book) (account_length account) e in
      count_push names_account order.entries x ∙ ap (λ n. count_by names_account order.entries + n) (accounts_entry config (book_length book) (account_length account) e)

  by_events : (e : Option Event) → length (behind e).entries ≡ length order.entries + (tally_of_event e).events
  by_events None = omega arith
  by_events (Some e) =
      let x = order_entry config (book_length book) (account_length account) e in
      length-append order.entries (x ∷ []) ∙ ap (λ n. length order.entries + n) (events_entry e)

  pub books_with : (outcome : Outcome) → count_by names_book (order_with config book account order outcome).entries ≡ count_by names_book order.entries + (tally_of outcome).books
  books_with outcome = by_books (event_of outcome)

  pub accounts_with : (outcome : Outcome) → count_by names_account (order_with config book account order outcome).entries ≡ count_by names_account order.entries + (tally_of outcome).accounts
  accounts_with outcome = by_accounts (event_of outcome)

  pub events_with : (outcome : Outcome) → length (order_with config book account order outcome).entries ≡ length order.entries + (tally_of outcome).events
  events_with outcome = by_events (event_of outcome)

-- with one event more, or none
pub record IsCounted (order now : PlainOrder) (added : Tally) : Type 0 where
  pub books : count_by names_book now.entries ≡ count_by names_book order.entries + added.books
  pub accounts : count_by names_account now.entries ≡ count_by names_account order.entries + added.accounts
  pub events : length now.entries ≡ length order.entries + added.events

pub ordered : (config : Config) (book : Option PlainBook) (account : Option PlainAccount) (order now : PlainOrder) (outcome : Outcome)
    → now ≡ order_with config book account (with_room order) outcome → IsCounted order now (tally_of outcome)
ordered config book account order now outcome h = record {
  books = ap (λ (o : PlainOrder). count_by names_book o.entries) h ∙ books_with config book account (with_room order) outcome;
  accounts = ap (λ (o : PlainOrder). count_by names_account o.entries) h ∙ accounts_with config book account (with_room order) outcome;
  events = ap (λ (o : PlainOrder). length o.entries) h ∙ events_with config book account (with_room order) outcome;
}

-- ---- books and accounts

pub book_counted : (entries : List BookEntry) (e : Event) (period : ℕ) → length (entries ++ book_entry e period) ≡ length entries + (tally_of_event (Some e)).books
book_counted entries e period = length-append entries (book_entry e period) ∙ ap (λ n. length entries + n) (one e)
  where
    one : (e : Event) → length (book_entry e period) ≡ (tally_of_event (Some e)).books
    one (event.Tariff tariff) = refl
    one (event.Token token) = refl
    one (event.Authorised hold) = refl
    one (event.Released release) = refl
    one (event.Cdr cdr cost) = refl
    one (event.Credit cdr amount) = refl
    one (event.Settled settlement) = refl
    one (event.Closed closed) = refl

pub account_counted : (entries : List AccountEntry) (e : Event) (period : ℕ) → length (entries ++ account_entry e period) ≡ length entries + (tally_of_event (Some e)).accounts
account_counted entries e period = length-append entries (account_entry e period) ∙ ap (λ n. length entries + n) (one e)
  where
    one : (e : Event) → length (account_entry e period) ≡ (tally_of_event (Some e)).accounts
    one (event.Tariff tariff) = refl
    one (event.Token token) = refl
    one (event.Authorised hold) = refl
    one (event.Released release) = refl
    one (event.Cdr cdr cost) = refl
    one (event.Credit cdr amount) = refl
    one (event.Settled settlement) = refl
    one (event.Closed closed) = refl

pub book_summed : (entries : List BookEntry) (e : Event) (period : ℕ) → total_of_book (entries ++ book_entry e period) ≡ total_of_book entries + (tally_of_event (Some e)).amount
book_summed entries e period = sum_by-append _ entries (book_entry e period) ∙ ap (λ n. total_of_book entries + n) (one e)
  where
    plus : (n : ℕ) → 0 + n ≡ n
    plus n = omega arith

    one : (e : Event) → total_of_book (book_entry e period) ≡ (tally_of_event (Some e)).amount
    one (event.Tariff tariff) = refl
    one (event.Token token) = refl
    one (event.Authorised hold) = refl
    one (event.Released release) = refl
    one (event.Cdr cdr cost) = plus cost
    one (event.Credit cdr amount) = plus (unsigned_abs amount)
    one (event.Settled settlement) = refl
    one (event.Closed closed) = refl

pub account_summed : (entries : List AccountEntry) (e : Event) (period : ℕ) → total_of_account (entries ++ account_entry e period) ≡ total_of_account entries + (tally_of_event (Some e)).amount
account_summed entries e period = sum_by-append _ entries (account_entry e period) ∙ ap (λ n. total_of_account entries + n) (one e)
  where
    plus : (n : ℕ) → 0 + n ≡ n
    plus n = omega arith

    one : (e : Event) → total_of_account (account_entry e period) ≡ (tally_of_event (Some e)).amount
    one (event.Tariff tariff) = refl
    one (event.Token token) = refl
    one (event.Authorised hold) = refl
    one (event.Released release) = refl
    one (event.Cdr cdr cost) = plus cost
    one (event.Credit cdr amount) = plus (unsigned_abs amount)
    one (event.Settled settlement) = refl
    one (event.Closed closed) = refl

-- ---- with an event or none

pub book_with_counted : (entries : List BookEntry) (period : ℕ) (e : Option Event) → length (book_with entries period e) ≡ length entries + (tally_of_event e).books
book_with_counted entries period None = omega arith
book_with_counted entries period (Some e) = book_counted entries e period

pub book_with_summed : (entries : List BookEntry) (period : ℕ) (e : Option Event) → total_of_book (book_with entries period e) ≡ total_of_book entries + (tally_of_event e).amount
book_with_summed entries period None = omega arith
book_with_summed entries period (Some e) = book_summed entries e period

pub account_with_counted : (entries : List AccountEntry) (period : ℕ) (e : Option Event) → length (account_with entries period e) ≡ length entries + (tally_of_event e).accounts
account_with_counted entries period None = omega arith
account_with_counted entries period (Some e) = account_counted entries e period

pub account_with_summed : (entries : List AccountEntry) (period : ℕ) (e : Option Event) → total_of_account (account_with entries period e) ≡ total_of_account entries + (tally_of_event e).amount
account_with_summed entries period None = omega arith
account_with_summed entries period (Some e) = account_summed entries e period
