use Rattle.std.proofs.Common.{◌≤◌, length}
use Rattle.shared_house.proofs.certifying.stretches.stretches_of.Given as goal

abbrev pub invariant-loop-behind : goal.invariant-loop-behind
invariant-loop-behind l = l.start ≤ length l.turns
