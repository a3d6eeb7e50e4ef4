use Rattle.std.proofs.Common.{arith}
use Rattle.checks.proofs.Weights.{items_lighter, members_lighter}
use Rattle.checks.proofs.readings.marks.+marks.Goals as goal

pub marked_value-marked_items-requires : goal.marked_value-marked_items-requires
marked_value-marked_items-requires t c = (omega (arith, c.decreases, items_lighter c.args.node.now c.in-Some.items c.in-Some.ensures), tt)

pub marked_value-marked_members-requires : goal.marked_value-marked_members-requires
marked_value-marked_members-requires t c =
    (omega (arith, c.decreases, members_lighter c.args.node.now c.in-Some-members.members c.in-Some-members.ensures), tt)
