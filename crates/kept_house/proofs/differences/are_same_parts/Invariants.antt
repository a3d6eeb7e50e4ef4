use Rattle.std.proofs.Common.{◌≡◌, length}
use Rattle.kept_house.proofs.differences.are_same_parts.Given as goal

abbrev pub invariant-loop-item : goal.invariant-loop-item
invariant-loop-item g l = record {
  forth : l.our_rest ≡ l.their_rest → l.ours ≡ l.theirs;
  back : l.ours ≡ l.theirs → l.our_rest ≡ l.their_rest;
}

abbrev pub decreases-loop-item : goal.decreases-loop-item
decreases-loop-item g l = length l.our_rest
