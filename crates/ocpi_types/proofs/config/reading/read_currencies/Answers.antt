-- There are as many values as items, so they fit.
use Rattle.std.proofs.Common.{arith, rules}
use Rattle.ocpi_json.specs.declared.name.Name.TheVariants as name
use Rattle.ocpi_types.specs.Currency.{a_currency}
use Rattle.ocpi_types.specs.ConfigText.{currencies_at}
use Rattle.ocpi_types.proofs.Doubled.{doubled_found}
use Rattle.ocpi_types.proofs.Lists.{kinds_within}
use Rattle.ocpi_types.proofs.config.reading.read_currencies.Goals as goal

pub new-requires : goal.new-requires
new-requires c =
    (omega arith, kinds_within a_currency 1 16 name.Currencies c.args.node.now c.in_ok-nodes.nodes c.in_ok-currencies.currencies c.in_ok-nodes.ensures c.in_ok-currencies.ensures)

pub returns-in_err-new : goal.returns-in_err-new
unfolding currencies_at
returns-in_err-new c =
    rw (← c.in_ok-nodes.ensures, c.in_ok-currencies.ensures) (doubled_found _ _ _ _ c.from_residual-in_err-new.result c.in_err-new.ensures (search rules))
