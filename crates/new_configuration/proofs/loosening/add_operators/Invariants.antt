use Rattle.std.proofs.Common.{◌≡◌, ◌++◌, map, take}
use Rattle.new_configuration.proofs.loosening.add_operators.Given as goal

abbrev pub invariant-loop-operator : goal.invariant-loop-operator
invariant-loop-operator l = l.parties ≡ l.fn.parties ++ map (λ operator. operator.party) (take l.operator-index l.operators)
