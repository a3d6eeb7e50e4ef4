use Rattle.std.proofs.Common.{arith}
use Rattle.checks.proofs.Weights.{items_lighter, members_lighter}
use Rattle.checks.proofs.readings.keys.+all.Goals as goal

pub are_all_marked-are_items_marked-requires : goal.are_all_marked-are_items_marked-requires
are_all_marked-are_items_marked-requires t c = (omega (arith, c.decreases, items_lighter c.args.node.now c.in-Some.items c.in-Some.ensures), tt)

pub are_all_marked-are_members_marked-requires : goal.are_all_marked-are_members_marked-requires
are_all_marked-are_members_marked-requires t c =
    (omega (arith, c.decreases, members_lighter c.args.node.now c.in-Some-members.members c.in-Some-members.ensures), tt)
