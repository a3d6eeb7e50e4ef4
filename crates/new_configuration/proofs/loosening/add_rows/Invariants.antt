use Rattle.std.proofs.Common.{◌≡◌, ◌++◌, map, take}
use Rattle.new_configuration.specs.Loosened.{with_highest_limit}
use Rattle.new_configuration.proofs.loosening.add_rows.Given as goal

abbrev pub invariant-loop-row : goal.invariant-loop-row
invariant-loop-row l = l.limits ≡ l.fn.limits ++ map with_highest_limit (take l.row-index l.rows)
