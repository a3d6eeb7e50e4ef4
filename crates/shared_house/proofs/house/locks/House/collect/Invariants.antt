use Rattle.std.proofs.Common.{◌≡◌, take}
use Rattle.shared_house.specs.Inner.Collecting.{IsCollecting}
use Rattle.shared_house.proofs.house.locks.House.collect.Given as goal

abbrev pub invariant-loop-number : goal.invariant-loop-number
invariant-loop-number g l = record {
  scope : g.T.ObligationTable.scope l.table ≡ g.T.ObligationTable.scope l.initial.table;
  collecting : IsCollecting g.N.BookEntries.Configured.config l.period (take l.number g.N.BookEntries.Configured.config.operators) (g.T.ObligationTable.obligations l.table);
}
