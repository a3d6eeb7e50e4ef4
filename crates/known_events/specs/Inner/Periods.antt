-- The period of each event.
use Rattle.std.specs.Prelude.{ℕ, List, map}
use Rattle.plain_house.specs.Entries.{dated_from}
use Rattle.plain_house.specs.declared.event.Event.{Event}

abbrev pub periods_from : ℕ → List Event → List ℕ
periods_from period events = map (λ dated. dated.period) (dated_from period events)

abbrev pub periods_of : List Event → List ℕ
periods_of events = periods_from 0 events
