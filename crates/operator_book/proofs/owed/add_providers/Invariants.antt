use Rattle.std.proofs.Common.{◌≡◌, ◌++◌, true, length}
use Rattle.std.specs.List.{list_all}
use Rattle.netting_positions.specs.Netting.{is_configured}
use Rattle.netting_positions.specs.State.{Scope}
use Rattle.operator_book.specs.Due.{due}
use Rattle.operator_book.specs.Together.{owed_by_all}
use Rattle.operator_book.proofs.owed.add_providers.Given as goal

abbrev pub invariant-loop-provider : goal.invariant-loop-provider
invariant-loop-provider g l =
    let its : Scope = g.T.ObligationTable.scope l.initial.table in
    record {
      scope : g.T.ObligationTable.scope l.table ≡ g.T.ObligationTable.scope l.initial.table;
      configured : list_all (is_configured its.parties its.currencies) (owed_by_all l.operator (due l.operator l.period l.book.entries) l.currencies l.rest) ≡ true;
      added : g.T.ObligationTable.obligations l.table ++ owed_by_all l.operator (due l.operator l.period l.book.entries) l.currencies l.rest
          ≡ g.T.ObligationTable.obligations l.initial.table ++ owed_by_all l.operator (due l.operator l.period l.book.entries) l.currencies l.providers;
    }

abbrev pub decreases-loop-provider : goal.decreases-loop-provider
decreases-loop-provider g l = length l.rest
