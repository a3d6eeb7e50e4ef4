-- The text of the order of events.
use Rattle.std.specs.Prelude.{ℕ, suc, List, [], ◌∷◌, codes, decimal}
use Rattle.plain_house.specs.Entries.{Dated, dated_from}
use Rattle.plain_house.specs.declared.event.Event.{Event}
use Rattle.plain_house.specs.declared.event.Event.TheVariants as event
use Rattle.house_statements.specs.Table.{table_text}

unfoldable pub event_name : Event → List ℕ
event_name (event.Tariff tariff) = codes "Tariff"
event_name (event.Token token) = codes "Token"
event_name (event.Authorised hold) = codes "Authorised"
event_name (event.Released release) = codes "Released"
event_name (event.Cdr cdr cost) = codes "Cdr"
event_name (event.Credit cdr amount) = codes "Credit"
event_name (event.Settled settlement) = codes "Settled"
event_name (event.Closed period) = codes "Closed"

abbrev pub order_header : List (List ℕ)
order_header = codes "point" ∷ codes "event" ∷ codes "period" ∷ []

abbrev pub event_fields : ℕ → Dated → List (List ℕ)
event_fields point dated = decimal point ∷ event_name dated.event ∷ decimal dated.period ∷ []

-- the first event being at the point that is given
abbrev pub records_from : ℕ → List Dated → List (List (List ℕ))
records_from point [] = []
records_from point (dated ∷ later) = event_fields point dated ∷ records_from (suc point) later

-- a header, and a record for each event: its place from 0, its name and its period
abbrev pub order_text : List Event → List ℕ
order_text events = table_text (order_header ∷ records_from 0 (dated_from 0 events))
