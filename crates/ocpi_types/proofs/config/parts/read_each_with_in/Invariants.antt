use Rattle.std.proofs.Common.{◌≡◌, length}
use Rattle.ocpi_json.specs.Members.{each_from}
use Rattle.ocpi_json.proofs.Eaches.{behind_items}
use Rattle.ocpi_types.proofs.config.parts.read_each_with_in.Given as goal

abbrev pub invariant-loop-node : goal.invariant-loop-node
invariant-loop-node g l =
    each_from l.name 0 (g.T.FromNodeWithIn.at_with l.listed) l.initial.nodes
    ≡ behind_items l.values (each_from l.name (length l.values) (g.T.FromNodeWithIn.at_with l.listed) l.nodes)

abbrev pub decreases-loop-node : goal.decreases-loop-node
decreases-loop-node g l = length l.nodes
