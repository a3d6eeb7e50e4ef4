use Rattle.std.proofs.Common.{◌≡◌, ◌≤◌, ◌+◌, find, length}
use Rattle.plain_house.specs.Booked.{booked, booked_as, has_id}
use Rattle.plain_house.specs.Entries.{book_entries, book_entries_from}
use Rattle.plain_house.proofs.booked.booked_as.Given as goal

abbrev pub invariant-loop-event : goal.invariant-loop-event
invariant-loop-event l = record {
  rest : find (has_id l.operator l.id) (booked (book_entries_from l.period l.rest)) ≡ booked_as l.operator l.id (book_entries l.events);
  periods : l.period + length l.rest ≤ length l.events;
}

abbrev pub decreases-loop-event : goal.decreases-loop-event
decreases-loop-event l = length l.rest
