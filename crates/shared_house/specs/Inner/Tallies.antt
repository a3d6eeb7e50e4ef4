-- What an event adds to the counts.
use Rattle.std.specs.Prelude.{Option, Some, None, unsigned_abs}
use Rattle.plain_house.specs.declared.event.Event.{Event}
use Rattle.plain_house.specs.declared.event.Event.TheVariants as event
use Rattle.period_order.specs.declared.decided.Outcome.{Outcome}
use Rattle.period_order.specs.Decided.{event_of}
use Rattle.shared_house.specs.declared.ledgers.tally.Tally.{Tally}

abbrev pub tally_of_event : Option Event → Tally
tally_of_event None = record { books = 0; accounts = 0; events = 0; amount = 0 }
tally_of_event (Some (event.Tariff tariff)) = record { books = 1; accounts = 0; events = 1; amount = 0 }
tally_of_event (Some (event.Token token)) = record { books = 0; accounts = 1; events = 1; amount = 0 }
tally_of_event (Some (event.Authorised hold)) = record { books = 0; accounts = 1; events = 1; amount = 0 }
tally_of_event (Some (event.Released release)) = record { books = 0; accounts = 1; events = 1; amount = 0 }
tally_of_event (Some (event.Cdr cdr cost)) = record { books = 1; accounts = 1; events = 1; amount = cost }
tally_of_event (Some (event.Credit cdr amount)) = record { books = 1; accounts = 1; events = 1; amount = unsigned_abs amount }
tally_of_event (Some (event.Settled settlement)) = record { books = 0; accounts = 1; events = 1; amount = 0 }
tally_of_event (Some (event.Closed period)) = record { books = 0; accounts = 0; events = 1; amount = 0 }

abbrev pub tally_of : Outcome → Tally
tally_of outcome = tally_of_event (event_of outcome)
