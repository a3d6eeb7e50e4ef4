-- The events that an order names, found in books and accounts.
use Rattle.std.specs.Prelude.{◌≡◌, ℕ, ◌+◌, true, List, [], ◌∷◌, ◌++◌, Option, Some, None, option_map, option_and_then, slice_get, map}
use Rattle.std.specs.Option.{option_to_list}
use Rattle.ocpi_types.specs.declared.config.Config.{Config}
use Rattle.ocpi_types.specs.declared.party.Party.{Party}
use Rattle.ocpi_types.specs.Config.{is_operator, is_provider}
use Rattle.operator_book.specs.State.{PlainBook}
use Rattle.provider_account.specs.State.{PlainAccount}
use Rattle.plain_house.specs.declared.entry.AccountEntry.{AccountEntry}
use Rattle.plain_house.specs.declared.entry.AccountEntry.TheVariants as account
use Rattle.plain_house.specs.declared.entry.BookEntry.{BookEntry}
use Rattle.plain_house.specs.declared.entry.BookEntry.TheVariants as book
use Rattle.plain_house.specs.declared.event.Event.{Event}
use Rattle.plain_house.specs.declared.event.Event.TheVariants as event
use Rattle.plain_house.specs.Entries.{book_entries}
use Rattle.plain_house.specs.Legal.{IsLegal}
use Rattle.plain_house.specs.Own.{own_account, own_book}
use Rattle.period_order.specs.declared.order_entry.OrderEntry.{OrderEntry}
use Rattle.period_order.specs.declared.order_entry.OrderEntry.TheVariants as entry
use Rattle.period_order.specs.declared.order_entry.Place.{Place}
use Rattle.period_order.specs.Places.{operator_number, order_of, provider_number}

-- the entries of these books, and of these accounts
abbrev pub entries_of_books : List PlainBook → List (List BookEntry)
entries_of_books books = map (λ book. book.entries) books

abbrev pub entries_of_accounts : List PlainAccount → List (List AccountEntry)
entries_of_accounts accounts = map (λ account. account.entries) accounts

-- the entry at a place
abbrev pub entry_at : {X : Type 0} → List (List X) → Place → Option X
entry_at lists place = option_and_then (λ entries. slice_get entries place.entry) (slice_get lists place.party)

-- the event of a book's entry
abbrev pub book_event : BookEntry → Event
book_event (book.Tariff tariff) = event.Tariff tariff
book_event (book.Cdr cdr cost period) = event.Cdr cdr cost
book_event (book.Credit cdr amount period) = event.Credit cdr amount

-- the event of an account's entry; a charge and a credit are their book's
abbrev pub account_event : AccountEntry → Option Event
account_event (account.Token token) = Some (event.Token token)
account_event (account.Hold hold) = Some (event.Authorised hold)
account_event (account.Release release) = Some (event.Released release)
account_event (account.Charge charge) = None
account_event (account.Credit credit) = None
account_event (account.Settlement settlement) = Some (event.Settled settlement)

-- the event that an entry of the order names, in the period that is current there
abbrev pub named_event : List (List BookEntry) → List (List AccountEntry) → ℕ → OrderEntry → Option Event
named_event books accounts period (entry.InBook book) = option_map book_event (entry_at books book)
named_event books accounts period (entry.InAccount account) = option_and_then account_event (entry_at accounts account)
named_event books accounts period (entry.InBoth book account) = option_map book_event (entry_at books book)
named_event books accounts period entry.Close = Some (event.Closed period)

abbrev pub period_behind : ℕ → OrderEntry → ℕ
period_behind period (entry.InBook book) = period
period_behind period (entry.InAccount account) = period
period_behind period (entry.InBoth book account) = period
period_behind period entry.Close = period + 1

-- the events that these entries name, from a period on
abbrev pub resolved_from : List (List BookEntry) → List (List AccountEntry) → ℕ → List OrderEntry → List Event
resolved_from books accounts period [] = []
resolved_from books accounts period (entry ∷ later) =
    option_to_list (named_event books accounts period entry) ++ resolved_from books accounts (period_behind period entry) later

abbrev pub resolved : List (List BookEntry) → List (List AccountEntry) → List OrderEntry → List Event
resolved books accounts order = resolved_from books accounts 0 order

-- ---- the books and accounts of a list of events

abbrev pub books_of : Config → List Event → List (List BookEntry)
books_of config events = map (λ operator. own_book operator.party (book_entries events)) config.operators

abbrev pub accounts_of : Config → List Event → List (List AccountEntry)
accounts_of config events = map (λ provider. own_account provider.party events) config.providers

-- the order of a legal list, resolved in its books and accounts, is the list
abbrev pub OrdersAreResolved : Type 0
OrdersAreResolved =
    (config : Config) (events : List Event) → IsLegal config events →
    resolved (books_of config events) (accounts_of config events) (order_of config events) ≡ events

-- at the number of a configured operator stands its own book, and at that of a provider its own account
pub record StandAtTheirNumbers (config : Config) (events : List Event) : Type 0 where
  pub operator : (party : Party) → is_operator config party ≡ true → slice_get (books_of config events) (operator_number config party) ≡ Some (own_book party (book_entries events))
  pub provider : (party : Party) → is_provider config party ≡ true → slice_get (accounts_of config events) (provider_number config party) ≡ Some (own_account party events)

abbrev pub PartiesStandAtTheirNumbers : Type 0
PartiesStandAtTheirNumbers = (config : Config) (events : List Event) → StandAtTheirNumbers config events
