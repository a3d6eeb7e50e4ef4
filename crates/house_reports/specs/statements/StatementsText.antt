-- The text of the order of events and of the statements of all closed periods.
use Rattle.std.specs.Prelude.{ℕ, zero, suc, List, [], ◌++◌, codes, decimal, flat_map}
use Rattle.ocpi_types.specs.Party.{party_text}
use Rattle.ocpi_types.specs.declared.config.Config.{Config}
use Rattle.ocpi_types.specs.declared.party.Party.{Party}
use Rattle.netting_positions.specs.declared.obligation.Obligation.{Obligation}
use Rattle.netting_positions.specs.Netting.{parties}
use Rattle.netting_positions.specs.Statement.{statement_rows}
use Rattle.plain_house.specs.declared.event.Event.{Event}
use Rattle.plain_house.specs.Entries.{book_entries, period_of}
use Rattle.plain_house.specs.Obligations.{obligations}
use Rattle.house_statements.specs.Order.{order_text}
use Rattle.house_statements.specs.Statement.{statement_text}

-- the line before a statement
unfoldable pub head_text : ℕ → Party → List ℕ
head_text period party = codes "statement " ++ (decimal period ++ (codes " " ++ (party_text party ++ codes "\n")))

-- a party's statement of a period, of what is owed in it
abbrev pub section_text : List Obligation → ℕ → Party → List ℕ
section_text owed period party = head_text period party ++ statement_text (statement_rows party owed)

-- the statements of these parties in a period
abbrev pub period_text : List Event → List Party → ℕ → List ℕ
period_text events among period = flat_map (section_text (obligations period (book_entries events)) period) among

-- in each of so many periods, from period 0
abbrev pub periods_text : List Event → List Party → ℕ → List ℕ
periods_text events among zero = []
periods_text events among (suc period) = periods_text events among period ++ period_text events among period

-- the order, and the statements of each closed period: those of the operators in the order of the configuration, and then those of the
-- providers that are no operators
abbrev pub statements_text : Config → List Event → List ℕ
statements_text config events = order_text events ++ periods_text events (parties config) (period_of events)
