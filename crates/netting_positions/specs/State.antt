-- What tables of obligations are.
use Rattle.std.specs.Prelude.{ℕ, List, Option, None, Some}
use Rattle.ocpi_types.specs.declared.party.Party.{Party}
use Rattle.netting_positions.specs.declared.obligation.Obligation.{Obligation}

-- the parties and currencies that have net positions, and the obligations in the order added
pub record PlainPositions : Type 0 where
  pub parties : List Party
  pub currencies : List (List ℕ)
  pub obligations : List Obligation

-- whose statement it is, the parties and currencies that it may name, and the obligations in the order added
pub record PlainStatement : Type 0 where
  pub party : Party
  pub parties : List Party
  pub currencies : List (List ℕ)
  pub obligations : List Obligation

-- ---- what both are for

-- the parties and currencies of the obligations, and the party whose statement it is, if it is one
pub record Scope : Type 0 where
  pub parties : List Party
  pub currencies : List (List ℕ)
  pub party : Option Party

abbrev pub scope_of_positions : PlainPositions → Scope
scope_of_positions table = record { parties = table.parties; currencies = table.currencies; party = None }

abbrev pub scope_of_statement : PlainStatement → Scope
scope_of_statement table = record { parties = table.parties; currencies = table.currencies; party = Some table.party }
