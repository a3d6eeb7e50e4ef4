use Rattle.std.proofs.Common.{◌≡◌, ◌++◌, map, take, drop}
use Rattle.netting_positions.specs.Inner.Rows.{with_net}
use Rattle.netting_positions.proofs.positions.add_to_rows.Given as goal

abbrev pub invariant-loop-row : goal.invariant-loop-row
invariant-loop-row l =
    l.row-items ≡ map (with_net l.obligation) (take l.row-index l.fn.rows.items) ++ drop l.row-index l.fn.rows.items
