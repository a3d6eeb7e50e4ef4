-- There are as many values as nodes, so they fit.
use Rattle.std.proofs.Common.{arith}
use Rattle.ocpi_types.proofs.Lists.{each_keeps_length}
use Rattle.ocpi_types.proofs.up_to.read_up_to.Goals as goal

pub unwrap-requires : goal.unwrap-requires
unwrap-requires g c =
    let long = each_keeps_length c.args.name 0 g.T.FromNodeIn.at c.args.nodes c.in_ok-values.values c.in_ok-values.ensures in
    c.new.ensures.most.1 (omega (arith, long, c.requires))
