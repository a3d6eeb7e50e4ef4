-- There are as many values as items, so they fit.
use Rattle.std.proofs.Common.{arith, rules}
use Rattle.ocpi_json.specs.declared.name.Name.TheVariants as name
use Rattle.ocpi_types.specs.ConfigParts.{pair_limit_at}
use Rattle.ocpi_types.specs.ConfigText.{stated_pair_limits_at}
use Rattle.ocpi_types.proofs.Doubled.{doubled_found}
use Rattle.ocpi_types.proofs.Lists.{optional_values_within}
use Rattle.ocpi_types.proofs.config.reading.read_stated_pair_limits.Goals as goal

pub new-requires : goal.new-requires
new-requires c =
    (omega arith, optional_values_within (pair_limit_at c.args.listed.now) 4096 name.PairLimits c.args.node.now c.in_ok-nodes.nodes c.in_ok-pair_limits.pair_limits c.in_ok-nodes.ensures c.in_ok-pair_limits.ensures)

pub returns-in_err-new : goal.returns-in_err-new
unfolding stated_pair_limits_at
returns-in_err-new c =
    rw (← c.in_ok-nodes.ensures, c.in_ok-pair_limits.ensures) (doubled_found _ _ _ _ c.from_residual-in_err-new.result c.in_err-new.ensures (search rules))
