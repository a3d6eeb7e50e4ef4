use Rattle.std.proofs.Common.{◌≡◌, ◌++◌, true, length}
use Rattle.std.specs.List.{list_all}
use Rattle.netting_positions.specs.Netting.{is_configured}
use Rattle.netting_positions.specs.State.{Scope}
use Rattle.operator_book.specs.Due.{due}
use Rattle.operator_book.specs.Together.{owed_by}
use Rattle.operator_book.proofs.owed.add_provider.Given as goal

abbrev pub invariant-loop-currency : goal.invariant-loop-currency
invariant-loop-currency g l =
    let its : Scope = g.T.ObligationTable.scope l.initial.table in
    record {
      scope : g.T.ObligationTable.scope l.table ≡ g.T.ObligationTable.scope l.initial.table;
      configured : list_all (is_configured its.parties its.currencies) (owed_by l.operator (due l.operator l.period l.book.entries) l.rest l.provider) ≡ true;
      added : g.T.ObligationTable.obligations l.table ++ owed_by l.operator (due l.operator l.period l.book.entries) l.rest l.provider
          ≡ g.T.ObligationTable.obligations l.initial.table ++ owed_by l.operator (due l.operator l.period l.book.entries) l.currencies l.provider;
    }

abbrev pub decreases-loop-currency : goal.decreases-loop-currency
decreases-loop-currency g l = length l.rest
