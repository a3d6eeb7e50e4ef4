-- What a house of books, accounts and an order has, and what it can put.
use Rattle.std.specs.Prelude.{◌≡◌, ℕ, true, List, length, Option, Some, None, slice_get}
use Rattle.ocpi_types.specs.declared.config.Config.{Config}
use Rattle.operator_book.specs.State.{PlainBook}
use Rattle.provider_account.specs.State.{PlainAccount}
use Rattle.plain_house.specs.declared.entry.AccountEntry.{AccountEntry}
use Rattle.plain_house.specs.declared.entry.BookEntry.{BookEntry}
use Rattle.plain_house.specs.declared.event.Event.{Event}
use Rattle.period_order.specs.Decided.{AccountTakes, BookTakes}
use Rattle.period_order.specs.Kept.{Keeps, with_added}
use Rattle.period_order.specs.Order.{PlainOrder}
use Rattle.period_order.specs.Resolved.{entries_of_accounts, entries_of_books, resolved}

-- the events of a house
abbrev pub kept_events : List PlainBook → List PlainAccount → PlainOrder → List Event
kept_events books accounts order = resolved (entries_of_books books) (entries_of_accounts accounts) order.entries

abbrev pub IsKept : Config → List PlainBook → List PlainAccount → PlainOrder → Type 0
IsKept config books accounts order =
    Keeps config (entries_of_books books) (entries_of_accounts accounts) order.entries (kept_events books accounts order)

-- books, accounts and order keep these events
abbrev pub AreKept : Config → List PlainBook → List PlainAccount → PlainOrder → List Event → Type 0
AreKept config books accounts order events = Keeps config (entries_of_books books) (entries_of_accounts accounts) order.entries events

-- what they keep is as it was
pub record AreAsBefore (books now_books : List PlainBook) (accounts now_accounts : List PlainAccount) (order now_order : PlainOrder) : Type 0 where
  pub books_are : entries_of_books now_books ≡ entries_of_books books
  pub accounts_are : entries_of_accounts now_accounts ≡ entries_of_accounts accounts
  pub order_is : now_order.entries ≡ order.entries

-- there is a book for each operator, and an account for each provider
pub record OneEach (config : Config) (books : List (List BookEntry)) (accounts : List (List AccountEntry)) : Type 0 where
  pub of_operators : length books ≡ length config.operators
  pub of_providers : length accounts ≡ length config.providers

-- ---- one entry more

-- the list of that number, with what an event adds behind it, if there is one
abbrev pub with_event_added : {X : Type 0} → List (List X) → Option ℕ → (Event → List X) → Option Event → List (List X)
with_event_added lists number added None = lists
with_event_added lists number added (Some event) = with_added lists number (added event)

-- the book of that number has room for one more entry
abbrev pub BookHasRoom : List PlainBook → Option ℕ → Type 0
BookHasRoom books None = Unit {0}
BookHasRoom books (Some number) = (book : PlainBook) → slice_get books number ≡ Some book → book.has_room ≡ true

abbrev pub AccountHasRoom : List PlainAccount → Option ℕ → Type 0
AccountHasRoom accounts None = Unit {0}
AccountHasRoom accounts (Some number) = (account : PlainAccount) → slice_get accounts number ≡ Some account → account.has_room ≡ true

-- the book of that number takes the event
abbrev pub BookTakesAt : List PlainBook → Option ℕ → Event → Type 0
BookTakesAt books None event = Unit {0}
BookTakesAt books (Some number) event = (book : PlainBook) → slice_get books number ≡ Some book → BookTakes book.entries event

abbrev pub AccountTakesAt : List PlainAccount → Option ℕ → ℕ → Event → Type 0
AccountTakesAt accounts None period event = Unit {0}
AccountTakesAt accounts (Some number) period event =
    (account : PlainAccount) → slice_get accounts number ≡ Some account → AccountTakes account.entries period event
