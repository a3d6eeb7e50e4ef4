-- There are as many values as items, so they fit.
use Rattle.std.proofs.Common.{arith, rules}
use Rattle.ocpi_json.specs.declared.name.Name.TheVariants as name
use Rattle.ocpi_types.specs.ConfigParts.{provider_entry_at}
use Rattle.ocpi_types.specs.ConfigText.{providers_at}
use Rattle.ocpi_types.proofs.Doubled.{doubled_found}
use Rattle.ocpi_types.proofs.Lists.{values_within}
use Rattle.ocpi_types.proofs.config.reading.read_providers.Goals as goal

pub new-requires : goal.new-requires
new-requires c =
    (omega arith, values_within (provider_entry_at c.args.currencies.now) 1 64 name.Providers c.args.node.now c.in_ok-nodes.nodes c.in_ok-providers.providers c.in_ok-nodes.ensures c.in_ok-providers.ensures)

pub returns-in_err-new : goal.returns-in_err-new
unfolding providers_at
returns-in_err-new c =
    rw (← c.in_ok-nodes.ensures, c.in_ok-providers.ensures) (doubled_found _ _ _ _ c.from_residual-in_err-new.result c.in_err-new.ensures (search rules))
