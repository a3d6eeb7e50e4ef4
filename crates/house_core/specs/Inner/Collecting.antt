-- A close or a statement behind its place in the order, while books are collected.
use Rattle.std.specs.Prelude.{◌≡◌, ◌<◌, ◌+◌, ◌^◌, ℕ, true, false, List, [], ◌∷◌, ◌++◌, Bool, filter, length, Ok}
use Rattle.ocpi_types.specs.declared.config.Config.{Config}
use Rattle.ocpi_types.specs.declared.config.Operator.{Operator}
use Rattle.ocpi_types.specs.declared.party.Party.{Party}
use Rattle.ocpi_types.specs.Party.{same_party}
use Rattle.cdr_checks.specs.declared.request.Command.{Command}
use Rattle.netting_positions.specs.declared.obligation.Obligation.{Obligation}
use Rattle.netting_positions.specs.Netting.{parties, total_size}
use Rattle.netting_positions.specs.SameSums.{OweAlike}
use Rattle.netting_positions.specs.Statement.{statement_rows}
use Rattle.operator_book.specs.Together.{owed_by_all}
use Rattle.plain_house.specs.declared.answer.Answer.TheVariants as answer
use Rattle.plain_house.specs.declared.event.Event.{Event}
use Rattle.plain_house.specs.Entries.{book_entries, period_of}
use Rattle.plain_house.specs.House.{positions_in}
use Rattle.plain_house.specs.Obligations.{obligations}
use Rattle.plain_house.specs.Replies.{stamped}
use Rattle.house_core.specs.declared.stage.Netting.{Netting}
use Rattle.house_core.specs.declared.stage.Stating.{Stating}
use Rattle.house_core.specs.OneHouse.{IsAnswered}

-- what is owed to the operator, with one obligation for each provider and currency
abbrev pub owed_to : Config → List Obligation → Party → List Obligation
owed_to config owed operator =
    owed_by_all operator (filter (λ obligation. same_party obligation.operator operator) owed) config.currencies config.providers

-- and to those of these operators whose books are still to be collected
abbrev pub left : Config → List Obligation → List Operator → List Bool → List Obligation
left config owed [] collected = []
left config owed (operator ∷ operators) [] = []
left config owed (operator ∷ operators) (true ∷ collected) = left config owed operators collected
left config owed (operator ∷ operators) (false ∷ collected) = owed_to config owed operator.party ++ left config owed operators collected

-- what is collected and what is left owe alike with what is owed
abbrev pub IsWhole : Config → List Obligation → List Bool → List Obligation → Type 0
IsWhole config owed collected obligations = OweAlike (obligations ++ left config owed config.operators collected) owed

-- the obligations to those operators, one by one
abbrev pub left_dues : List Obligation → List Operator → List Bool → List Obligation
left_dues owed [] collected = []
left_dues owed (operator ∷ operators) [] = []
left_dues owed (operator ∷ operators) (true ∷ collected) = left_dues owed operators collected
left_dues owed (operator ∷ operators) (false ∷ collected) = filter (λ obligation. same_party obligation.operator operator.party) owed ++ left_dues owed operators collected

-- what is collected and what is left fit in 63 bits
abbrev pub Fits : Config → List Obligation → List Bool → List Obligation → Type 0
Fits config owed collected obligations = total_size obligations + total_size (left_dues owed config.operators collected) < 2 ^ 63

-- what the events oblige to in a period
abbrev pub owed_in : ℕ → List Event → List Obligation
owed_in period events = obligations period (book_entries events)

-- a close: its reply is that of its point, with what the closed period obliges to, and this is what is collected
pub record IsNetting (config : Config) (events : List Event) (command : Command) (begin : ℕ) (netting : Netting) : Type 0 where
  pub answered : IsAnswered config events command begin (length events) netting.point (stamped netting.point (Ok (answer.Closed netting.period (positions_in config (book_entries events) netting.period))))
  pub closed : netting.period < period_of events
  pub parties_are : netting.collection.table.parties ≡ parties config
  pub currencies_are : netting.collection.table.currencies ≡ config.currencies
  pub collected : IsWhole config (owed_in netting.period events) netting.collection.collected netting.collection.table.obligations
  pub fits : Fits config (owed_in netting.period events) netting.collection.collected netting.collection.table.obligations

-- a statement likewise
pub record IsStating (config : Config) (events : List Event) (command : Command) (begin : ℕ) (stating : Stating) : Type 0 where
  pub answered : IsAnswered config events command begin (length events) stating.point (stamped stating.point (Ok (answer.Statement (statement_rows stating.collection.table.party (owed_in stating.period events)))))
  pub closed : stating.period < period_of events
  pub parties_are : stating.collection.table.parties ≡ parties config
  pub currencies_are : stating.collection.table.currencies ≡ config.currencies
  pub collected : IsWhole config (owed_in stating.period events) stating.collection.collected stating.collection.table.obligations
  pub fits : Fits config (owed_in stating.period events) stating.collection.collected stating.collection.table.obligations
