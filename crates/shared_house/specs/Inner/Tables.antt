-- Net positions and rows of statements that calls were told, by what their periods oblige to.
use Rattle.std.specs.Prelude.{◌≡◌, ◌<◌, ◌^◌, ℕ, true, List, Some, Ok, slice_get}
use Rattle.std.specs.List.{list_all}
use Rattle.ocpi_types.specs.declared.config.Config.{Config}
use Rattle.cdr_checks.specs.declared.request.Command.TheVariants as command
use Rattle.cdr_checks.specs.declared.request.StatementOf.{StatementOf}
use Rattle.netting_positions.specs.declared.obligation.Obligation.{Obligation}
use Rattle.netting_positions.specs.declared.positions.NetPosition.{NetPosition}
use Rattle.netting_positions.specs.declared.row.StatementRow.{StatementRow}
use Rattle.netting_positions.specs.Netting.{is_configured, parties, total_size}
use Rattle.netting_positions.specs.Statement.{statement_rows}
use Rattle.plain_house.specs.declared.answer.Answer.TheVariants as answer
use Rattle.plain_house.specs.declared.event.Event.{Event}
use Rattle.plain_house.specs.Entries.{book_entries}
use Rattle.plain_house.specs.House.{positions_in}
use Rattle.plain_house.specs.Obligations.{obligations}
use Rattle.shared_house.specs.declared.call.Call.{Call}

-- the list of each number is what the events oblige to in the period of that number
abbrev pub AreOwed : List (List Obligation) → List Event → Type 0
AreOwed lists events = (number : ℕ) (owed : List Obligation) → slice_get lists number ≡ Some owed → owed ≡ obligations number (book_entries events)

-- net positions and rows can be made of it: it is of configured parties in configured currencies, and fits in 63 bits
pub record CanBeNetted (config : Config) (owed : List Obligation) : Type 0 where
  pub configured : list_all (is_configured (parties config) config.currencies) owed ≡ true
  pub fits : total_size owed < 2 ^ 63

-- the net positions or the rows that the call was told are those of what all events oblige to in the period
pub record HasRightTable (config : Config) (events : List Event) (call : Call) : Type 0 where
  pub positions : (at period : ℕ) (told : List NetPosition) → call.reply ≡ Ok (record { at = at; answer = answer.Closed period told }) →
      told ≡ positions_in config (book_entries events) period
  pub rows : (at : ℕ) (ask : StatementOf) (told : List StatementRow) → call.command ≡ command.Statement ask → call.reply ≡ Ok (record { at = at; answer = answer.Statement told }) →
      told ≡ statement_rows ask.party (obligations ask.period (book_entries events))
