use Rattle.std.proofs.Common.{◌≡◌, length}
use Rattle.ocpi_json.specs.Fields.{each_of, parsed}
use Rattle.ocpi_json.proofs.Eaches.{behind_items}
use Rattle.ocpi_json.proofs.objects.parsed_each.Given as goal

abbrev pub invariant-loop-node : goal.invariant-loop-node
invariant-loop-node g l =
    each_of (parsed g.T.FromText.expects g.T.FromText.of_text) l.name 0 l.initial.nodes
    ≡ behind_items l.values (each_of (parsed g.T.FromText.expects g.T.FromText.of_text) l.name (length l.values) l.nodes)

abbrev pub decreases-loop-node : goal.decreases-loop-node
decreases-loop-node g l = length l.nodes
