use Rattle.std.proofs.Common.{◌≡◌, ◌++◌, map, take}
use Rattle.netting_positions.proofs.positions.add_operators.Given as goal

abbrev pub invariant-loop-operator : goal.invariant-loop-operator
invariant-loop-operator l =
    l.parties.items ≡ l.fn.parties.items ++ map (λ operator. operator.party) (take l.operator-index l.config.operators)
