-- The files that are written of a house that has ended.
use Rattle.std.specs.Prelude.{◌≡◌, ℕ, zero, suc, List, [], ◌∷◌, ◌++◌, codes, decimal, map}
use Rattle.ocpi_types.specs.declared.config.Config.{Config}
use Rattle.ocpi_types.specs.declared.party.Party.{Party}
use Rattle.netting_positions.specs.declared.obligation.Obligation.{Obligation}
use Rattle.netting_positions.specs.Netting.{parties}
use Rattle.netting_positions.specs.Statement.{statement_rows}
use Rattle.plain_house.specs.declared.event.Event.{Event}
use Rattle.plain_house.specs.Entries.{book_entries, period_of}
use Rattle.plain_house.specs.Obligations.{obligations}
use Rattle.house_statements.specs.Order.{order_text}
use Rattle.house_statements.specs.Statement.{statement_text}
use Rattle.clear_cli.specs.Folder.{Output}

-- the order of the events
abbrev pub order_output : List Event → Output
order_output events = record { name = codes "order.csv"; text = order_text events }

-- the file of a period and a party, as the party is configured
abbrev pub statement_name : ℕ → Party → List ℕ
statement_name period party =
    codes "statement-" ++ (decimal period ++ (codes "-" ++ (party.country_code ++ (codes "-" ++ (party.party_id ++ codes ".csv")))))

-- a name that a statement can have, whatever its period and its party
abbrev pub IsStatementName : List ℕ → Type 0
IsStatementName name = (middle : List ℕ) × (name ≡ codes "statement-" ++ (middle ++ codes ".csv"))

-- a party's statement of a period, of what is owed in it
abbrev pub statement_output : List Obligation → ℕ → Party → Output
statement_output owed period party = record {
  name = statement_name period party;
  text = statement_text (statement_rows party owed);
}

-- the statements of these parties in each of so many periods, from period 0
abbrev pub statements : List Event → List Party → ℕ → List Output
statements events among zero = []
statements events among (suc period) =
    statements events among period ++ map (statement_output (obligations period (book_entries events)) period) among

-- The order, and the statements of each closed period: those of the operators in the order of the configuration, and then those
-- of the providers that are no operators.
abbrev pub outputs : Config → List Event → List Output
outputs config events = order_output events ∷ statements events (parties config) (period_of events)
