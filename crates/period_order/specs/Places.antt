-- Where the entries of events stand.
use Rattle.std.specs.Prelude.{◌≡◌, ℕ, List, [], ◌∷◌, ◌++◌, length, count_by, position, unwrap_or}
use Rattle.ocpi_types.specs.declared.config.Config.{Config}
use Rattle.ocpi_types.specs.declared.party.Party.{Party}
use Rattle.ocpi_types.specs.Party.{same_party}
use Rattle.plain_house.specs.declared.event.Event.{Event}
use Rattle.plain_house.specs.declared.event.Event.TheVariants as event
use Rattle.plain_house.specs.Entries.{account_entries, book_entries, period_of}
use Rattle.plain_house.specs.Own.{own_account, own_book}
use Rattle.period_order.specs.declared.order_entry.OrderEntry.{OrderEntry}
use Rattle.period_order.specs.declared.order_entry.OrderEntry.TheVariants as entry
use Rattle.period_order.specs.declared.order_entry.Place.{Place}
use Rattle.period_order.specs.Order.{is_close_entry, names_account, names_book}

-- the number of an operator in the configuration, from 0; where it is not configured, the number of operators
abbrev pub operator_number : Config → Party → ℕ
operator_number config party =
    unwrap_or (position (λ operator. same_party operator.party party) config.operators) (length config.operators)

-- the same of a provider
abbrev pub provider_number : Config → Party → ℕ
provider_number config party =
    unwrap_or (position (λ provider. same_party provider.party party) config.providers) (length config.providers)

-- the place behind so many entries of the operator's book, or of the provider's account
abbrev pub in_book : Config → Party → ℕ → Place
in_book config operator entries = record { party = operator_number config operator; entry = entries }

abbrev pub in_account : Config → Party → ℕ → Place
in_account config provider entries = record { party = provider_number config provider; entry = entries }

-- what the order keeps of an event, where its book and its account have so many entries before it
abbrev pub order_entry : Config → ℕ → ℕ → Event → OrderEntry
order_entry config book account (event.Tariff tariff) = entry.InBook (in_book config tariff.operator book)
order_entry config book account (event.Token token) = entry.InAccount (in_account config token.provider account)
order_entry config book account (event.Authorised hold) = entry.InAccount (in_account config hold.provider account)
order_entry config book account (event.Released release) = entry.InAccount (in_account config release.provider account)
order_entry config book account (event.Cdr cdr cost) =
    entry.InBoth (in_book config cdr.operator book) (in_account config cdr.cdr_token.provider account)
order_entry config book account (event.Credit cdr amount) =
    entry.InBoth (in_book config cdr.operator book) (in_account config cdr.cdr_token.provider account)
order_entry config book account (event.Settled settlement) = entry.InAccount (in_account config settlement.provider account)
order_entry config book account (event.Closed period) = entry.Close

-- ---- the order of a list of events

-- how many entries the event's book has before it; an event without a book has none
abbrev pub book_size : List Event → Event → ℕ
book_size before (event.Tariff tariff) = length (own_book tariff.operator (book_entries before))
book_size before (event.Token token) = 0
book_size before (event.Authorised hold) = 0
book_size before (event.Released release) = 0
book_size before (event.Cdr cdr cost) = length (own_book cdr.operator (book_entries before))
book_size before (event.Credit cdr amount) = length (own_book cdr.operator (book_entries before))
book_size before (event.Settled settlement) = 0
book_size before (event.Closed period) = 0

-- and how many its account has
abbrev pub account_size : List Event → Event → ℕ
account_size before (event.Tariff tariff) = 0
account_size before (event.Token token) = length (own_account token.provider before)
account_size before (event.Authorised hold) = length (own_account hold.provider before)
account_size before (event.Released release) = length (own_account release.provider before)
account_size before (event.Cdr cdr cost) = length (own_account cdr.cdr_token.provider before)
account_size before (event.Credit cdr amount) = length (own_account cdr.cdr_token.provider before)
account_size before (event.Settled settlement) = length (own_account settlement.provider before)
account_size before (event.Closed period) = 0

-- what the order keeps of later events, behind those before
abbrev pub order_after : Config → List Event → List Event → List OrderEntry
order_after config before [] = []
order_after config before (event ∷ later) =
    order_entry config (book_size before event) (account_size before event) event ∷ order_after config (before ++ event ∷ []) later

abbrev pub order_of : Config → List Event → List OrderEntry
order_of config events = order_after config [] events

-- the order has an entry for each event, a close for each period that is closed, and names a book, or an account, once for each
-- entry of all books, or of all accounts
pub record IsCounted (config : Config) (events : List Event) : Type 0 where
  pub entries : length (order_of config events) ≡ length events
  pub closes : count_by is_close_entry (order_of config events) ≡ period_of events
  pub in_books : count_by names_book (order_of config events) ≡ length (book_entries events)
  pub in_accounts : count_by names_account (order_of config events) ≡ length (account_entries events)

abbrev pub OrdersAreCounted : Type 0
OrdersAreCounted = (config : Config) (events : List Event) → IsCounted config events
