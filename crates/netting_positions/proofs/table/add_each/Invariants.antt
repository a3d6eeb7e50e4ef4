use Rattle.std.proofs.Common.{◌≡◌, ◌<◌, ◌^◌, ◌+◌, ◌++◌, true, length}
use Rattle.std.specs.List.{list_all}
use Rattle.netting_positions.specs.Netting.{is_configured, total_size}
use Rattle.netting_positions.proofs.table.add_each.Given as goal

abbrev pub invariant-loop-obligation : goal.invariant-loop-obligation
invariant-loop-obligation g l = record {
  scope : g.T.ObligationTable.scope l.table ≡ g.T.ObligationTable.scope l.initial.table;
  added : g.T.ObligationTable.obligations l.table ++ l.rest ≡ g.T.ObligationTable.obligations l.initial.table ++ l.obligations;
  configured : list_all (is_configured (g.T.ObligationTable.scope l.initial.table).parties (g.T.ObligationTable.scope l.initial.table).currencies) l.rest ≡ true;
  fits : total_size (g.T.ObligationTable.obligations l.table) + total_size l.rest < 2 ^ 63;
}

abbrev pub decreases-loop-obligation : goal.decreases-loop-obligation
decreases-loop-obligation g l = length l.rest
