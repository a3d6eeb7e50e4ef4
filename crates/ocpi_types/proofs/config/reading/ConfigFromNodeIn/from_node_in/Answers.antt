use Rattle.ocpi_types.proofs.InParts.{config}
use Rattle.ocpi_types.proofs.config.reading.ConfigFromNodeIn.from_node_in.Goals as goal

pub returns : goal.returns
returns c = rw (config c.args.node.now) c.read_parts.ensures
