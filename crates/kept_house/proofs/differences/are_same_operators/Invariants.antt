use Rattle.std.proofs.Common.{length}
use Rattle.kept_house.specs.Differences.{AreSameOperators}
use Rattle.kept_house.proofs.differences.are_same_operators.Given as goal

abbrev pub invariant-loop-operator : goal.invariant-loop-operator
invariant-loop-operator l = record {
  forth : AreSameOperators l.our_rest l.their_rest → AreSameOperators l.ours l.theirs;
  back : AreSameOperators l.ours l.theirs → AreSameOperators l.our_rest l.their_rest;
}

abbrev pub decreases-loop-operator : goal.decreases-loop-operator
decreases-loop-operator l = length l.our_rest
