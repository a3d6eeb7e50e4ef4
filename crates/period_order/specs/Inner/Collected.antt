-- What is collected book by book, and the table that it is collected in.
use Rattle.std.specs.Prelude.{◌≡◌, ◌+◌, ◌<◌, ◌^◌, ℕ, List, [], ◌++◌, length, None, Some, Result, Ok}
use Rattle.ocpi_types.specs.declared.config.Config.{Config}
use Rattle.ocpi_types.specs.declared.config.Operator.{Operator}
use Rattle.ocpi_types.specs.declared.refusal.Refusal.{Refusal}
use Rattle.cdr_checks.specs.declared.request.Command.{Command}
use Rattle.cdr_checks.specs.declared.request.Command.TheVariants as command
use Rattle.cdr_checks.specs.declared.request.Command.TheVariants.{Statement as StatementCommand}
use Rattle.cdr_checks.specs.declared.request.StatementOf.{StatementOf}
use Rattle.netting_positions.specs.declared.obligation.Obligation.{Obligation}
use Rattle.netting_positions.specs.Netting.{net_positions, parties, total_size}
use Rattle.netting_positions.specs.State.{Scope}
use Rattle.netting_positions.specs.Statement.{statement_rows}
use Rattle.plain_house.specs.declared.answer.Answer.{Answer}
use Rattle.plain_house.specs.declared.answer.Answer.TheVariants as answer
use Rattle.plain_house.specs.declared.entry.BookEntry.{BookEntry}
use Rattle.plain_house.specs.declared.event.Event.{Event}
use Rattle.plain_house.specs.declared.event.Event.TheVariants as event
use Rattle.plain_house.specs.Entries.{book_entries, period_of}
use Rattle.plain_house.specs.House.{verdict}
use Rattle.plain_house.specs.Known.{known}
use Rattle.plain_house.specs.Replies.{with_event}
use Rattle.period_order.specs.declared.book_house.table.Table.{Table}
use Rattle.period_order.specs.declared.book_house.table.Table.TheVariants as table
use Rattle.period_order.specs.declared.decided.Decided.{Decided}
use Rattle.period_order.specs.declared.decided.Outcome.{Outcome}
use Rattle.period_order.specs.declared.decided.Outcome.TheVariants as outcome
use Rattle.period_order.specs.Decided.{verdict_with}
use Rattle.period_order.specs.Dues.{AreOfProviders, collected, dues, sums}

-- ---- book by book

-- the table's obligations are among the parties and currencies of the configuration
pub record IsScopeOf (config : Config) (scope : Scope) : Type 0 where
  pub parties : scope.parties ≡ parties config
  pub currencies : scope.currencies ≡ config.currencies

-- some books were collected, and those of these operators are left
pub record IsCollecting (config : Config) (period : ℕ) (found : List Obligation) (operators : List Operator) (rest all : List (List BookEntry)) : Type 0 where
  pub known : AreOfProviders config (dues operators period rest)
  pub fits : total_size found + total_size (dues operators period rest) < 2 ^ 63
  pub added : found ++ sums config operators period rest ≡ collected config period all

-- ---- tables

-- the table in which the command collects, without obligations yet
abbrev pub table_of : Config → Command → Table
table_of config (command.PutTariff tariff) = table.Nothing
table_of config (command.PutToken token) = table.Nothing
table_of config (command.Authorize ask) = table.Nothing
table_of config (command.Release release) = table.Nothing
table_of config (command.Post checked) = table.Nothing
table_of config (command.Close close) =
    table.NetPositions (record { parties = parties config; currencies = config.currencies; obligations = [] })
table_of config (command.Settle settlement) = table.Nothing
table_of config (command.Exposure ask) = table.Nothing
table_of config (command.Find find) = table.Nothing
table_of config (command.Statement ask) =
    table.Statement (record { party = ask.party; parties = parties config; currencies = config.currencies; obligations = [] })

-- what is left to be collected can be collected in it
abbrev pub IsTableFor : Config → Outcome → Table → Type 0
IsTableFor config (outcome.Replied reply event) found = Unit {0}
IsTableFor config (outcome.Closed period) found =
    found ≡ table.NetPositions (record { parties = parties config; currencies = config.currencies; obligations = [] })
IsTableFor config (outcome.Stated ask) found =
    found ≡ table.Statement (record { party = ask.party; parties = parties config; currencies = config.currencies; obligations = [] })

-- ---- replies

-- the reply, with what is collected from these books
abbrev pub reply_with : Config → List (List BookEntry) → Outcome → Result Answer Refusal
reply_with config books (outcome.Replied reply event) = reply
reply_with config books (outcome.Closed period) =
    Ok (answer.Closed period (net_positions (parties config) config.currencies (dues config.operators period books)))
reply_with config books (outcome.Stated ask) =
    Ok (answer.Statement (statement_rows ask.party (dues config.operators ask.period books)))

-- what is left once the event is put
abbrev pub without_event : Outcome → Outcome
without_event (outcome.Replied reply event) = outcome.Replied reply None
without_event (outcome.Closed period) = outcome.Closed period
without_event (outcome.Stated ask) = outcome.Stated ask

-- the command has its place in the order and the list has its event; with what is left to be collected under `base`, its reply is
-- that of the verdict under `config`
pub record IsReached (config base : Config) (events : List Event) (command : Command) (decided : Decided) (now : List Event) : Type 0 where
  pub point_is : decided.point ≡ length events
  pub reply_is : (verdict config (known events) command).reply ≡ (verdict_with base (book_entries now) decided.outcome).reply
  pub now_is : now ≡ with_event events (verdict config (known events) command).event
  pub table_is : IsTableFor base decided.outcome (table_of base command)
  -- net positions are left where the current period is closed, and rows where a statement of a closed one is given
  pub closes : (period : ℕ) → decided.outcome ≡ outcome.Closed period → (verdict config (known events) command).event ≡ Some (event.Closed period)
  pub states : (ask : StatementOf) → decided.outcome ≡ outcome.Stated ask → (command ≡ StatementCommand ask) × (ask.period < period_of events)
