-- Books, accounts and an order that keep a list of events, and one event more.
use Rattle.std.specs.Prelude.{◌≡◌, ◌≤◌, ℕ, true, List, [], ◌∷◌, ◌++◌, length, count_by, Option, Some, None, option_map, slice_get, slice_set, unwrap_or}
use Rattle.ocpi_types.specs.declared.config.Config.{Config}
use Rattle.ocpi_types.specs.declared.party.Party.{Party}
use Rattle.ocpi_types.specs.Config.{alike_operators, alike_providers}
use Rattle.ocpi_types.specs.Currency.{same_currency}
use Rattle.ocpi_types.specs.Different.{all_different}
use Rattle.cdr_checks.specs.Admission.{IsAdmitted}
use Rattle.cdr_checks.specs.Parties.{operator_of_command, provider_of_command}
use Rattle.cdr_checks.specs.declared.request.Command.{Command}
use Rattle.plain_house.specs.declared.entry.AccountEntry.{AccountEntry}
use Rattle.plain_house.specs.declared.entry.BookEntry.{BookEntry}
use Rattle.plain_house.specs.declared.event.Event.{Event}
use Rattle.plain_house.specs.Entries.{account_entry, book_entries, book_entry}
use Rattle.plain_house.specs.House.{verdict}
use Rattle.plain_house.specs.Known.{known}
use Rattle.plain_house.specs.Legal.{IsLegal}
use Rattle.plain_house.specs.Own.{own_account, own_book}
use Rattle.period_order.specs.declared.order_entry.OrderEntry.{OrderEntry}
use Rattle.period_order.specs.Order.{is_close_entry}
use Rattle.period_order.specs.Places.{operator_number, order_entry, order_of, provider_number}
use Rattle.period_order.specs.Resolved.{accounts_of, books_of}

-- books, accounts and order are those of a legal list
pub record Keeps (config : Config) (books : List (List BookEntry)) (accounts : List (List AccountEntry)) (order : List OrderEntry) (events : List Event) : Type 0 where
  pub legal : IsLegal config events
  pub books_are : books ≡ books_of config events
  pub accounts_are : accounts ≡ accounts_of config events
  pub order_is : order ≡ order_of config events

-- ---- one entry more

-- the list of that number, with these behind it
abbrev pub with_added : {X : Type 0} → List (List X) → Option ℕ → List X → List (List X)
with_added lists None added = lists
with_added lists (Some number) added = slice_set lists number (unwrap_or (slice_get lists number) [] ++ added)

-- the number of the book that a command looks into, if it does, and that of its account
abbrev pub book_number : Config → Command → Option ℕ
book_number config command = option_map (operator_number config) (operator_of_command command)

abbrev pub account_number : Config → Command → Option ℕ
account_number config command = option_map (provider_number config) (provider_of_command command)

-- the command's book and its account have so many entries
pub record AreLengths (events : List Event) (command : Command) (in_book in_account : ℕ) : Type 0 where
  pub book : (operator : Party) → operator_of_command command ≡ Some operator → in_book ≡ length (own_book operator (book_entries events))
  pub account : (provider : Party) → provider_of_command command ≡ Some provider → in_account ≡ length (own_account provider events)

-- no two operators are the same, and no two providers
pub record AreDistinct (config : Config) : Type 0 where
  pub operators : all_different alike_operators config.operators ≡ true
  pub providers : all_different alike_providers config.providers ≡ true

-- no two operators, providers or currencies are the same; at most 64 operators, of at most 100,000 CDRs each
pub record IsConfiguration (config : Config) : Type 0 where
  pub distinct : AreDistinct config
  pub currencies : all_different same_currency config.currencies ≡ true
  pub operators : length config.operators ≤ 64
  pub cdrs : config.limits.cdrs ≤ 100_000

-- where an admitted command adds an event, the command's book and account with the event's entries, and the order with what it
-- keeps of the event, keep the list with the event
abbrev pub EventsAreKept : Type 0
EventsAreKept =
    (config : Config) (books : List (List BookEntry)) (accounts : List (List AccountEntry)) (order : List OrderEntry) (events : List Event)
    (command : Command) (event : Event) (in_book in_account : ℕ) →
    AreDistinct config → Keeps config books accounts order events → IsAdmitted config command →
    (verdict config (known events) command).event ≡ Some event → AreLengths events command in_book in_account →
    Keeps config
    (with_added books (book_number config command) (book_entry event (count_by is_close_entry order)))
    (with_added accounts (account_number config command) (account_entry event (count_by is_close_entry order)))
    (order ++ order_entry config in_book in_account event ∷ [])
    (events ++ event ∷ [])
