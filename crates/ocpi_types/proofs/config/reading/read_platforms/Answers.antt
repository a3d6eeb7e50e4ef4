-- There are as many values as items, so they fit.
use Rattle.std.proofs.Common.{arith, rules}
use Rattle.ocpi_json.specs.declared.name.Name.TheVariants as name
use Rattle.ocpi_types.specs.ConfigParts.{platform_at}
use Rattle.ocpi_types.specs.ConfigText.{platforms_at}
use Rattle.ocpi_types.proofs.Doubled.{doubled_found}
use Rattle.ocpi_types.proofs.Lists.{values_within}
use Rattle.ocpi_types.proofs.config.reading.read_platforms.Goals as goal

pub new-requires : goal.new-requires
new-requires c =
    (omega arith, values_within (platform_at c.args.listed.now) 1 128 name.Platforms c.args.node.now c.in_ok-nodes.nodes c.in_ok-platforms.platforms c.in_ok-nodes.ensures c.in_ok-platforms.ensures)

pub returns-in_err-new : goal.returns-in_err-new
unfolding platforms_at
returns-in_err-new c =
    rw (← c.in_ok-nodes.ensures, c.in_ok-platforms.ensures) (doubled_found _ _ _ _ c.from_residual-in_err-new.result c.in_err-new.ensures (search rules))
