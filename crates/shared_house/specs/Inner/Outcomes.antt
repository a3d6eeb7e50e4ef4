-- What follows from an outcome: the reply, and the entries that a book and an account have then.
use Rattle.std.specs.Prelude.{ℕ, true, List, ◌++◌, Option, Some, None, Result}
use Rattle.ocpi_types.specs.declared.refusal.Refusal.{Refusal}
use Rattle.plain_house.specs.declared.answer.Answer.{Answer}
use Rattle.plain_house.specs.declared.entry.AccountEntry.{AccountEntry}
use Rattle.plain_house.specs.declared.entry.BookEntry.{BookEntry}
use Rattle.plain_house.specs.declared.event.Event.{Event}
use Rattle.plain_house.specs.Entries.{account_entry, book_entry}
use Rattle.period_order.specs.declared.decided.Outcome.{Outcome}
use Rattle.period_order.specs.declared.decided.Outcome.TheVariants as outcome
use Rattle.period_order.specs.Order.{PlainOrder}

-- the order with room for one more entry
abbrev pub with_room : PlainOrder → PlainOrder
with_room order = record { entries = order.entries; has_room = true }

-- the reply, where nothing is left to be collected
abbrev pub reply_in : Outcome → Option (Result Answer Refusal)
reply_in (outcome.Replied reply event) = Some reply
reply_in (outcome.Closed period) = None
reply_in (outcome.Stated ask) = None

abbrev pub book_with : List BookEntry → ℕ → Option Event → List BookEntry
book_with entries period None = entries
book_with entries period (Some event) = entries ++ book_entry event period

abbrev pub account_with : List AccountEntry → ℕ → Option Event → List AccountEntry
account_with entries period None = entries
account_with entries period (Some event) = entries ++ account_entry event period
