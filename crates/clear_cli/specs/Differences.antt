-- The CDRs of a list of events, rated again.
use Rattle.std.specs.Prelude.{ℕ, ◌+◌, ◌==◌, suc, pos, List, [], ◌∷◌, if◌then◌else◌, flat_map, length}
use Rattle.ocpi_types.specs.declared.config.Config.{Config}
use Rattle.ocpi_types.specs.declared.config.Operator.{Operator}
use Rattle.plain_house.specs.declared.event.Event.{Event}
use Rattle.plain_house.specs.declared.event.Event.TheVariants as event
use Rattle.period_order.specs.Places.{operator_number}
use Rattle.re_rating.specs.declared.records.Record.{Record}
use Rattle.re_rating.specs.declared.records.Difference.{Difference}
use Rattle.re_rating.specs.Differences.{differences}

-- a CDR of the operator of this number, with what it is booked at
abbrev pub record_in : Config → ℕ → Event → List Record
record_in config number (event.Tariff tariff) = []
record_in config number (event.Token token) = []
record_in config number (event.Authorised hold) = []
record_in config number (event.Released release) = []
record_in config number (event.Cdr cdr cost) =
    if operator_number config cdr.operator == number then record { cdr = cdr; booked = pos cost } ∷ [] else []
record_in config number (event.Credit cdr amount) = []
record_in config number (event.Settled settlement) = []
record_in config number (event.Closed period) = []

-- the operator's CDRs, in the order of the events
abbrev pub records_of : Config → ℕ → List Event → List Record
records_of config number events = flat_map (record_in config number) events

-- those that are not rated in the operator's zone at what they are booked at
abbrev pub differences_of : Config → List Event → ℕ → Operator → List Difference
differences_of config events number operator = differences operator.zone (records_of config number events)

-- how many they are of these operators, the first of which has this number
abbrev pub count_from : Config → List Event → ℕ → List Operator → ℕ
count_from config events number [] = 0
count_from config events number (operator ∷ operators) =
    length (differences_of config events number operator) + count_from config events (suc number) operators

abbrev pub difference_count : Config → List Event → ℕ
difference_count config events = count_from config events 0 config.operators
