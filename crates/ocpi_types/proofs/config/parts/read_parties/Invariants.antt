use Rattle.std.proofs.Common.{◌≡◌, length}
use Rattle.ocpi_json.specs.Fields.{each_of}
use Rattle.ocpi_json.specs.declared.name.Name.TheVariants as name
use Rattle.ocpi_json.proofs.Eaches.{behind_items}
use Rattle.ocpi_types.specs.ConfigParts.{listed_party}
use Rattle.ocpi_types.proofs.config.parts.read_parties.Given as goal

abbrev pub invariant-loop-node : goal.invariant-loop-node
invariant-loop-node l =
    each_of (listed_party l.listed) name.Parties 0 l.initial.nodes
    ≡ behind_items l.parties (each_of (listed_party l.listed) name.Parties (length l.parties) l.nodes)

abbrev pub decreases-loop-node : goal.decreases-loop-node
decreases-loop-node l = length l.nodes
