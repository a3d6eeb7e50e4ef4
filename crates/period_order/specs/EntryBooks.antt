-- Books, accounts and an order to which events are put as they are given.
use Rattle.std.specs.Prelude.{◌≡◌, ◌<◌, ℕ, List, length, Some}
use Rattle.ocpi_types.specs.declared.config.Config.{Config}
use Rattle.cdr_checks.specs.declared.request.Command.{Command}
use Rattle.cdr_checks.specs.declared.request.Command.TheVariants.{Statement as StatementCommand}
use Rattle.cdr_checks.specs.declared.request.StatementOf.{StatementOf}
use Rattle.plain_house.specs.declared.entry.AccountEntry.{AccountEntry}
use Rattle.plain_house.specs.declared.entry.BookEntry.{BookEntry}
use Rattle.plain_house.specs.declared.event.Event.{Event}
use Rattle.plain_house.specs.declared.event.Event.TheVariants as event
use Rattle.plain_house.specs.Entries.{book_entries, period_of}
use Rattle.plain_house.specs.House.{events_after, verdict}
use Rattle.plain_house.specs.Known.{known}
use Rattle.period_order.specs.declared.decided.Decided.{Decided}
use Rattle.period_order.specs.declared.decided.Outcome.TheVariants as outcome
use Rattle.period_order.specs.declared.order_entry.OrderEntry.{OrderEntry}
use Rattle.period_order.specs.Decided.{verdict_with}
use Rattle.period_order.specs.Kept.{Keeps}

-- books, accounts and an order of a configuration, of whatever events they are
pub record PlainEntryBooks : Type 0 where
  pub config : Config
  pub books : List (List BookEntry)
  pub accounts : List (List AccountEntry)
  pub order : List OrderEntry

-- the entry books keep these events, which are a legal list
abbrev pub Keep : PlainEntryBooks → List Event → Type 0
Keep entry_books events = Keeps entry_books.config entry_books.books entry_books.accounts entry_books.order events

-- what a command comes to behind these events: its point, and its reply but for what is left to be collected
pub record IsDecided (config : Config) (events : List Event) (command : Command) (decided : Decided) : Type 0 where
  pub point_is : decided.point ≡ length events
  pub reply_is : (verdict config (known events) command).reply ≡ (verdict_with config (book_entries (events_after config events command)) decided.outcome).reply
  -- net positions are left where the current period is closed, and rows where a statement of a closed one is given
  pub closes : (period : ℕ) → decided.outcome ≡ outcome.Closed period → (verdict config (known events) command).event ≡ Some (event.Closed period)
  pub states : (ask : StatementOf) → decided.outcome ≡ outcome.Stated ask → (command ≡ StatementCommand ask) × (ask.period < period_of events)
