use Rattle.std.proofs.Common.{◌≡◌, length, map}
use Rattle.plain_house.specs.Obligations.{GoesOnFrom}
use Rattle.shared_house.specs.Inner.Tables.{AreOwed}
use Rattle.shared_house.proofs.certifying.tables.owed_by_period.Given as goal

abbrev pub invariant-loop-period : goal.invariant-loop-period
invariant-loop-period l = record {
  owed : AreOwed (map (λ list. list.items) l.owed.items) l.events;
  count : length l.owed.items ≡ l._period;
  rest : GoesOnFrom l.events l._period l.rest;
}
