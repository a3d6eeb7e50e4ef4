use Rattle.std.proofs.Common.{◌≡◌, [], take}
use Rattle.netting_positions.specs.Netting.{net_positions}
use Rattle.netting_positions.proofs.positions.zeros.Given as goal

abbrev pub invariant-loop-currency : goal.invariant-loop-currency
invariant-loop-currency l = l.rows.items ≡ net_positions l.parties (take l.currency-index l.currencies) []
