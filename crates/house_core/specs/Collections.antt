-- What a close or a statement collects, book by book.
use Rattle.std.specs.Prelude.{ℕ, Bool, true, false, not, List, [], ◌++◌, length, replicate, slice_get, slice_set}
use Rattle.std.specs.List.{list_all}
use Rattle.std.specs.Option.{option_map_or}
use Rattle.ocpi_types.specs.declared.config.Config.{Config}
use Rattle.ocpi_types.specs.declared.config.Operator.{Operator}
use Rattle.ocpi_types.specs.declared.party.Party.{Party}
use Rattle.netting_positions.specs.declared.obligation.Obligation.{Obligation}
use Rattle.netting_positions.specs.Netting.{parties}
use Rattle.netting_positions.specs.State.{PlainPositions, PlainStatement}
use Rattle.operator_book.specs.Due.{due}
use Rattle.operator_book.specs.Together.{owed_by_all}
use Rattle.plain_house.specs.declared.entry.BookEntry.{BookEntry}

-- a table, and for each operator whether its book is in it
pub record PlainCollection (T : Type 0) : Type 0 where
  pub collected : List Bool
  pub table : T

-- no book is in it yet
abbrev pub of_no_book : {T : Type 0} → Config → T → PlainCollection T
of_no_book config table = record { collected = replicate (length config.operators) false; table = table }

abbrev pub no_positions : Config → PlainPositions
no_positions config = record { parties = parties config; currencies = config.currencies; obligations = [] }

abbrev pub no_statement : Config → Party → PlainStatement
no_statement config party =
    record { party = party; parties = parties config; currencies = config.currencies; obligations = [] }

-- the book of the operator of that number is still to be collected
abbrev pub is_open : List Bool → ℕ → Bool
is_open collected operator = option_map_or not (slice_get collected operator) false

-- all books are collected
abbrev pub is_complete : List Bool → Bool
is_complete collected = list_all (λ is_collected. is_collected) collected

-- what the operator is owed of the period by its own book, summed by provider and currency
abbrev pub sums : Config → Operator → ℕ → List BookEntry → List Obligation
sums config operator period entries =
    owed_by_all operator.party (due operator.party period entries) config.currencies config.providers

-- the net positions with these obligations more, and the statement
abbrev pub positions_with : PlainPositions → List Obligation → PlainPositions
positions_with table obligations = record {
  parties = table.parties;
  currencies = table.currencies;
  obligations = table.obligations ++ obligations;
}

abbrev pub statement_with : PlainStatement → List Obligation → PlainStatement
statement_with table obligations = record {
  party = table.party;
  parties = table.parties;
  currencies = table.currencies;
  obligations = table.obligations ++ obligations;
}

-- with the book of the operator of that number, whose obligations are these
abbrev pub nets_with : ℕ → List Obligation → PlainCollection PlainPositions → PlainCollection PlainPositions
nets_with number obligations collection = record {
  collected = slice_set collection.collected number true;
  table = positions_with collection.table obligations;
}

abbrev pub rows_with : ℕ → List Obligation → PlainCollection PlainStatement → PlainCollection PlainStatement
rows_with number obligations collection = record {
  collected = slice_set collection.collected number true;
  table = statement_with collection.table obligations;
}
