-- There are as many values as items, so they fit.
use Rattle.std.proofs.Common.{arith, rules}
use Rattle.ocpi_json.specs.declared.name.Name.TheVariants as name
use Rattle.ocpi_types.specs.ConfigParts.{operator_entry_at}
use Rattle.ocpi_types.specs.ConfigText.{operators_at}
use Rattle.ocpi_types.proofs.Doubled.{doubled_found}
use Rattle.ocpi_types.proofs.Lists.{values_within}
use Rattle.ocpi_types.proofs.config.reading.read_operators.Goals as goal

pub new-requires : goal.new-requires
new-requires c =
    (omega arith, values_within (operator_entry_at) 1 64 name.Operators c.args.node.now c.in_ok-nodes.nodes c.in_ok-operators.operators c.in_ok-nodes.ensures c.in_ok-operators.ensures)

pub returns-in_err-new : goal.returns-in_err-new
unfolding operators_at
returns-in_err-new c =
    rw (← c.in_ok-nodes.ensures, c.in_ok-operators.ensures) (doubled_found _ _ _ _ c.from_residual-in_err-new.result c.in_err-new.ensures (search rules))
