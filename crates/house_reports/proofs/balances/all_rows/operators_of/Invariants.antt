use Rattle.std.proofs.Common.{◌≡◌, map, take}
use Rattle.house_reports.proofs.balances.all_rows.operators_of.Given as goal

abbrev pub invariant-loop-operator : goal.invariant-loop-operator
invariant-loop-operator l = l.parties.items ≡ map (λ operator. operator.party) (take l.operator-index l.config.operators)
