use Rattle.ocpi_types.proofs.InParts.{restrictions}
use Rattle.ocpi_types.proofs.restrictions.RestrictionsFromNodeIn.from_node_in.Goals as goal

pub returns : goal.returns
returns c = rw (restrictions c.args.node.now) c.read_parts.ensures
