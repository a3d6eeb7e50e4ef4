use Rattle.std.proofs.Common.{◌≡◌, length}
use Rattle.ocpi_json.specs.Members.{each_from}
use Rattle.ocpi_json.specs.declared.name.Name.TheVariants as name
use Rattle.ocpi_json.proofs.Eaches.{behind_items}
use Rattle.ocpi_types.specs.Tariff.{tariff_at}
use Rattle.ocpi_types.proofs.known_tariffs.KnownTariffs.read_any.Given as goal

abbrev pub invariant-loop-node : goal.invariant-loop-node
invariant-loop-node l =
    each_from name.Tariffs 0 tariff_at l.initial.nodes
    ≡ behind_items l.tariffs (each_from name.Tariffs (length l.tariffs) tariff_at l.nodes)

abbrev pub decreases-loop-node : goal.decreases-loop-node
decreases-loop-node l = length l.nodes
