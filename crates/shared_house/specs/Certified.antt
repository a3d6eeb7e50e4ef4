-- What the check of an order, books, accounts and calls says.
use Rattle.std.specs.Prelude.{◌≡◌, ◌⊎◌, ◌+◌, ◌<◌, ℕ, List, take}
use Rattle.ocpi_types.specs.declared.config.Config.{Config}
use Rattle.plain_house.specs.declared.entry.AccountEntry.{AccountEntry}
use Rattle.plain_house.specs.declared.entry.BookEntry.{BookEntry}
use Rattle.plain_house.specs.declared.event.Event.{Event}
use Rattle.period_order.specs.declared.order_entry.OrderEntry.{OrderEntry}
use Rattle.period_order.specs.Resolves.{FailsAt, Resolves}
use Rattle.shared_house.specs.declared.call.Call.{Call}
use Rattle.shared_house.specs.History.{Breaks, IsOneHistory}

-- the order names the events, and with the calls of all passes they are one history
pub record IsCertified (config : Config) (books : List (List BookEntry)) (accounts : List (List AccountEntry)) (order : List OrderEntry) (passes : List (List Call)) (events : List Event) : Type 0 where
  pub named : Resolves books accounts order events
  pub history : IsOneHistory config events passes

-- the events that the order names up to an entry, that one too, break with the calls there
pub record HistoryBreaks (config : Config) (books : List (List BookEntry)) (accounts : List (List AccountEntry)) (order : List OrderEntry) (passes : List (List Call)) (number : ℕ) : Type 0 where
  pub events : List Event
  pub named : Resolves books accounts (take (number + 1) order) events
  pub breaks : Breaks config events passes number

-- at this number the order is the first to name no event, or the history breaks
abbrev pub IsTorn : Config → List (List BookEntry) → List (List AccountEntry) → List OrderEntry → List (List Call) → ℕ → Type 0
IsTorn config books accounts order passes number =
    FailsAt books accounts order number ⊎ HistoryBreaks config books accounts order passes number

-- it is torn there, and at no smaller number
pub record IsTornFirst (config : Config) (books : List (List BookEntry)) (accounts : List (List AccountEntry)) (order : List OrderEntry) (passes : List (List Call)) (number : ℕ) : Type 0 where
  pub torn : IsTorn config books accounts order passes number
  pub none_before : (smaller : ℕ) → smaller < number → IsTorn config books accounts order passes smaller → ⊥

-- what is certified is torn nowhere
abbrev pub CertifiedIsWhole : Type 0
CertifiedIsWhole =
    (config : Config) (books : List (List BookEntry)) (accounts : List (List AccountEntry)) (order : List OrderEntry) (passes : List (List Call)) (events : List Event) (number : ℕ) →
    IsCertified config books accounts order passes events → IsTorn config books accounts order passes number → ⊥

-- and no other events are certified
abbrev pub CertifiedIsUnique : Type 0
CertifiedIsUnique =
    (config : Config) (books : List (List BookEntry)) (accounts : List (List AccountEntry)) (order : List OrderEntry) (passes : List (List Call)) (events others : List Event) →
    IsCertified config books accounts order passes events → IsCertified config books accounts order passes others → events ≡ others
