use Rattle.std.proofs.Common.{◌+◌, ◌≤◌, length}
use Rattle.checks.proofs.Weights.{weight, weights, member_weights}
use Rattle.checks.proofs.readings.keys.+all.Given as goal

abbrev pub decreases-are_all_marked : goal.decreases-are_all_marked
decreases-are_all_marked l = weight l.node.now

abbrev pub decreases-are_items_marked : goal.decreases-are_items_marked
decreases-are_items_marked l = weights l.items + 1

abbrev pub decreases-are_members_marked : goal.decreases-are_members_marked
decreases-are_members_marked l = member_weights l.members + 1

abbrev pub invariant-are_items_marked-loop-item : goal.invariant-are_items_marked-loop-item
invariant-are_items_marked-loop-item l = weights l.items ≤ weights l.fn.items

abbrev pub decreases-are_items_marked-loop-item : goal.decreases-are_items_marked-loop-item
decreases-are_items_marked-loop-item l = length l.items

abbrev pub invariant-are_members_marked-loop-key : goal.invariant-are_members_marked-loop-key
invariant-are_members_marked-loop-key l = member_weights l.members ≤ member_weights l.fn.members

abbrev pub decreases-are_members_marked-loop-key : goal.decreases-are_members_marked-loop-key
decreases-are_members_marked-loop-key l = length l.members
