use Rattle.std.proofs.Common.{◌+◌, ◌≤◌, length}
use Rattle.checks.proofs.Weights.{weight, weights, member_weights}
use Rattle.checks.proofs.readings.marks.+marks.Given as goal

abbrev pub decreases-marked_value : goal.decreases-marked_value
decreases-marked_value l = weight l.node.now

abbrev pub decreases-marked_items : goal.decreases-marked_items
decreases-marked_items l = weights l.items + 1

abbrev pub decreases-marked_members : goal.decreases-marked_members
decreases-marked_members l = member_weights l.members + 1

abbrev pub invariant-marked_items-loop-item : goal.invariant-marked_items-loop-item
invariant-marked_items-loop-item l = weights l.items ≤ weights l.fn.items

abbrev pub decreases-marked_items-loop-item : goal.decreases-marked_items-loop-item
decreases-marked_items-loop-item l = length l.items

abbrev pub invariant-marked_members-loop-key : goal.invariant-marked_members-loop-key
invariant-marked_members-loop-key l = member_weights l.members ≤ member_weights l.fn.members

abbrev pub decreases-marked_members-loop-key : goal.decreases-marked_members-loop-key
decreases-marked_members-loop-key l = length l.members
