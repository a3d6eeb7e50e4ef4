use Rattle.std.proofs.Common.{◌≡◌, ◌≤◌, ◌+◌, length}
use Rattle.plain_house.specs.Entries.{account_entries, account_entries_from}
use Rattle.plain_house.specs.Exposure.{total_charged}
use Rattle.plain_house.specs.Inner.Scanned.{owed_charges}
use Rattle.plain_house.proofs.debts.owed_by_all.Given as goal

abbrev pub invariant-loop-event : goal.invariant-loop-event
invariant-loop-event l = record {
  total : l.total + total_charged (owed_charges l.sought l.events (account_entries_from l.period l.rest))
      ≡ total_charged (owed_charges l.sought l.events (account_entries l.events));
  periods : l.period + length l.rest ≤ length l.events;
}

abbrev pub decreases-loop-event : goal.decreases-loop-event
decreases-loop-event l = length l.rest
