-- A list of records for each operator.
use Rattle.std.specs.Prelude.{ℕ, zero, suc, ◌+◌, pos, List, [], ◌∷◌, ◌++◌, length}
use Rattle.ocpi_types.specs.declared.config.Config.{Config}
use Rattle.ocpi_types.specs.declared.config.Operator.{Operator}
use Rattle.plain_house.specs.declared.event.Event.{Event}
use Rattle.plain_house.specs.declared.event.Event.TheVariants as event
use Rattle.period_order.specs.Places.{operator_number}
use Rattle.re_rating.specs.declared.records.Record.{Record}
use Rattle.re_rating.specs.Differences.{differences}
use Rattle.clear_cli.specs.Differences.{records_of}

abbrev pub no_lists : ℕ → List (List Record)
no_lists zero = []
no_lists (suc count) = no_lists count ++ [] ∷ []

-- the list of this number with one more
abbrev pub added_at : ℕ → Record → List (List Record) → List (List Record)
added_at number booking [] = []
added_at zero booking (list ∷ lists) = (list ++ booking ∷ []) ∷ lists
added_at (suc number) booking (list ∷ lists) = list ∷ added_at number booking lists

-- a list for each of these operators, the first of which has this number
abbrev pub record_lists : Config → List Event → ℕ → List Operator → List (List Record)
record_lists config events number [] = []
record_lists config events number (operator ∷ operators) = records_of config number events ∷ record_lists config events (suc number) operators

-- how many of the lists' records are not rated at what they are booked at
abbrev pub count_lists : List Operator → List (List Record) → ℕ
count_lists [] lists = 0
count_lists (operator ∷ operators) [] = 0
count_lists (operator ∷ operators) (list ∷ lists) = length (differences operator.zone list) + count_lists operators lists

-- the lists after one more event
abbrev pub with_event : Config → Event → List (List Record) → List (List Record)
with_event config (event.Tariff tariff) lists = lists
with_event config (event.Token token) lists = lists
with_event config (event.Authorised hold) lists = lists
with_event config (event.Released release) lists = lists
with_event config (event.Cdr cdr cost) lists = added_at (operator_number config cdr.operator) (record { cdr = cdr; booked = pos cost }) lists
with_event config (event.Credit cdr amount) lists = lists
with_event config (event.Settled settlement) lists = lists
with_event config (event.Closed period) lists = lists
