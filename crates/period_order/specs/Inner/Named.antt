-- The event that an entry of the order names, or that it names none.
use Rattle.std.specs.Prelude.{ℕ, List, Option, Some, None}
use Rattle.plain_house.specs.declared.entry.AccountEntry.{AccountEntry}
use Rattle.plain_house.specs.declared.entry.BookEntry.{BookEntry}
use Rattle.plain_house.specs.declared.event.Event.{Event}
use Rattle.period_order.specs.declared.order_entry.OrderEntry.{OrderEntry}
use Rattle.period_order.specs.Resolves.{Names}

abbrev pub IsNamed : List (List BookEntry) → List (List AccountEntry) → ℕ → OrderEntry → Option Event → Type 0
IsNamed books accounts period entry None = (named : Event) → Names books accounts period entry named → ⊥
IsNamed books accounts period entry (Some named) = Names books accounts period entry named
