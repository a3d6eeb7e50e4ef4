use Rattle.ocpi_types.proofs.InParts.{cdr}
use Rattle.ocpi_types.proofs.cdr.Cdr.read_knowing.Goals as goal

pub returns : goal.returns
returns c = rw (cdr c.args.node.now) c.read_in_parts.ensures
