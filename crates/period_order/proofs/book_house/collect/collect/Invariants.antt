use Rattle.std.proofs.Common.{◌≡◌, length}
use Rattle.period_order.specs.Inner.Collected.{IsCollecting}
use Rattle.period_order.specs.Resolved.{entries_of_books}
use Rattle.period_order.proofs.book_house.collect.collect.Given as goal

abbrev pub invariant-loop-operator : goal.invariant-loop-operator
invariant-loop-operator g l = record {
  scope : g.T.ObligationTable.scope l.table ≡ g.T.ObligationTable.scope l.initial.table;
  collecting : IsCollecting l.config l.period (g.T.ObligationTable.obligations l.table) l.operators (entries_of_books l.rest) (entries_of_books l.books);
}

abbrev pub decreases-loop-operator : goal.decreases-loop-operator
decreases-loop-operator g l = length l.operators
