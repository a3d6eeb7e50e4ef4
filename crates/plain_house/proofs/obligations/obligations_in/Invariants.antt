use Rattle.std.proofs.Common.{◌≡◌, ◌≤◌, ◌+◌, ◌++◌, length}
use Rattle.plain_house.specs.Entries.{book_entries, book_entries_from}
use Rattle.plain_house.specs.Obligations.{obligations}
use Rattle.plain_house.proofs.obligations.obligations_in.Given as goal

abbrev pub invariant-loop-event : goal.invariant-loop-event
invariant-loop-event l = record {
  found : l.found.items ++ obligations l.period (book_entries_from l.current l.rest) ≡ obligations l.period (book_entries l.events);
  periods : l.current + length l.rest ≤ length l.events;
}

abbrev pub decreases-loop-event : goal.decreases-loop-event
decreases-loop-event l = length l.rest
