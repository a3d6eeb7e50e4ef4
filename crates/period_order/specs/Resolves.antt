-- What it is that an order names a list of events in books and accounts, and where it fails to.
use Rattle.std.specs.Prelude.{◌≡◌, ℕ, true, List, [], ◌∷◌, ◌++◌, length, Option, Some, None, option_map}
use Rattle.ocpi_types.specs.declared.config.Config.{Config}
use Rattle.plain_house.specs.declared.entry.AccountEntry.{AccountEntry}
use Rattle.plain_house.specs.declared.entry.BookEntry.{BookEntry}
use Rattle.plain_house.specs.declared.event.Event.{Event}
use Rattle.plain_house.specs.declared.event.Event.TheVariants as event
use Rattle.plain_house.specs.Entries.{account_entry, book_entry, is_close, period_of}
use Rattle.plain_house.specs.Legal.{IsLegal}
use Rattle.period_order.specs.declared.order_entry.OrderEntry.{OrderEntry}
use Rattle.period_order.specs.declared.order_entry.OrderEntry.TheVariants as entry
use Rattle.period_order.specs.declared.order_entry.Place.{Place}
use Rattle.period_order.specs.Places.{order_of}
use Rattle.period_order.specs.Resolved.{accounts_of, books_of, entry_at, resolved}

-- the place in a book that an entry of the order names, if it names one, and that in an account
abbrev pub book_place : OrderEntry → Option Place
book_place (entry.InBook book) = Some book
book_place (entry.InAccount account) = None
book_place (entry.InBoth book account) = Some book
book_place entry.Close = None

abbrev pub account_place : OrderEntry → Option Place
account_place (entry.InBook book) = None
account_place (entry.InAccount account) = Some account
account_place (entry.InBoth book account) = Some account
account_place entry.Close = None

-- what stands at a place, if the place is there; where no place is named, nothing
abbrev pub standing : {X : Type 0} → List (List X) → Option Place → Option (List X)
standing lists None = Some []
standing lists (Some place) = option_map (λ x. x ∷ []) (entry_at lists place)

-- an entry of the order names an event in this period: its book and its account have there exactly what they keep of the event,
-- and a close ends this period
pub record Names (books : List (List BookEntry)) (accounts : List (List AccountEntry)) (period : ℕ) (entry : OrderEntry) (named : Event) : Type 0 where
  pub in_book : standing books (book_place entry) ≡ Some (book_entry named period)
  pub in_account : standing accounts (account_place entry) ≡ Some (account_entry named period)
  pub closes : is_close named ≡ true → named ≡ event.Closed period

-- the order names these events one by one, each in the period that is current there
pub record Resolves (books : List (List BookEntry)) (accounts : List (List AccountEntry)) (order : List OrderEntry) (events : List Event) : Type 0 where
  pub each : length order ≡ length events
  pub names :
      (earlier : List OrderEntry) (entry : OrderEntry) (later : List OrderEntry) (before : List Event) (named : Event) (behind : List Event) →
      order ≡ earlier ++ entry ∷ later → events ≡ before ++ named ∷ behind → length earlier ≡ length before →
      Names books accounts (period_of before) entry named

-- an entry is the first that names no event: those before it name some, and with it they do not
pub record FailsAt (books : List (List BookEntry)) (accounts : List (List AccountEntry)) (order : List OrderEntry) (number : ℕ) : Type 0 where
  pub before : List OrderEntry
  pub failing : OrderEntry
  pub later : List OrderEntry
  pub order_is : order ≡ before ++ failing ∷ later
  pub number_is : number ≡ length before
  pub events : List Event
  pub resolves : Resolves books accounts before events
  pub fails : (others : List Event) → Resolves books accounts (before ++ failing ∷ []) others → ⊥

-- the order of a legal list resolves to it in its books and accounts
abbrev pub OrdersResolve : Type 0
OrdersResolve =
    (config : Config) (events : List Event) → IsLegal config events →
    Resolves (books_of config events) (accounts_of config events) (order_of config events) events

-- an order resolves to no other events than those that it names
abbrev pub ResolvingIsUnique : Type 0
ResolvingIsUnique =
    (books : List (List BookEntry)) (accounts : List (List AccountEntry)) (order : List OrderEntry) (events : List Event) →
    Resolves books accounts order events → resolved books accounts order ≡ events

-- and it fails nowhere
abbrev pub ResolvingIsWhole : Type 0
ResolvingIsWhole =
    (books : List (List BookEntry)) (accounts : List (List AccountEntry)) (order : List OrderEntry) (events : List Event) (number : ℕ) →
    Resolves books accounts order events → FailsAt books accounts order number → ⊥
