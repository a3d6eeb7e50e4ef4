-- What is known when a command is judged.
use Rattle.std.specs.Prelude.{ℕ, List, length}
use Rattle.plain_house.specs.declared.event.Event.{Event}
use Rattle.plain_house.specs.declared.entry.AccountEntry.{AccountEntry}
use Rattle.plain_house.specs.declared.entry.BookEntry.{BookEntry}
use Rattle.plain_house.specs.Entries.{account_entries, book_entries, period_of}

-- entries of books and of accounts, the number of events, and the current period
pub record Known : Type 0 where
  pub book : List BookEntry
  pub account : List AccountEntry
  pub point : ℕ
  pub period : ℕ

-- by a list of events
abbrev pub known : List Event → Known
known events = record {
  book = book_entries events;
  account = account_entries events;
  point = length events;
  period = period_of events;
}
