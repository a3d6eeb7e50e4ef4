use Rattle.std.proofs.Common.{◌≡◌, ◌≤◌, ◌+◌, ◌++◌, length}
use Rattle.plain_house.specs.Entries.{book_entries, book_entries_from}
use Rattle.plain_house.specs.Obligations.{obligations}
use Rattle.plain_house.proofs.obligations.add_all.Given as goal

abbrev pub invariant-loop-event : goal.invariant-loop-event
invariant-loop-event g l = record {
  scope : g.T.ObligationTable.scope l.table ≡ g.T.ObligationTable.scope l.initial.table;
  added : g.T.ObligationTable.obligations l.table ++ obligations l.period (book_entries_from l.current l.rest) ≡ g.T.ObligationTable.obligations l.initial.table ++ obligations l.period (book_entries l.events);
  periods : l.current + length l.rest ≤ length l.events;
}

abbrev pub decreases-loop-event : goal.decreases-loop-event
decreases-loop-event g l = length l.rest
