use Rattle.std.proofs.Common.{◌≡◌, ◌++◌, List, take}
use Rattle.plain_house.specs.declared.event.Event.{Event}
use Rattle.plain_house.specs.Legal.{IsLegal}
use Rattle.period_order.specs.EntryBooks.{Keep}
use Rattle.shared_house.proofs.certifying.stretches.put_all.Given as goal

abbrev pub invariant-loop-event : goal.invariant-loop-event
invariant-loop-event l = record {
  config : l.entry_books.config ≡ l.initial.entry_books.config;
  put : (before : List Event) → Keep l.initial.entry_books before → IsLegal l.initial.entry_books.config (before ++ l.events) → Keep l.entry_books (before ++ take l.event-index l.events);
}
