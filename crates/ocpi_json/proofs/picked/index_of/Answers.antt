use Rattle.std.proofs.Common.{rules, get_or, sym, ap, ◌∙◌}
use denote.Enum.Bare.{same_true}
use Rattle.ocpi_json.specs.contracts.name.Name.{the_type}
use Rattle.ocpi_json.proofs.picked.index_of.Goals as goal

pub returns-then-eq-clause-found : goal.returns-then-eq-clause-found
returns-then-eq-clause-found c = (
  c.if-at-names.true,
  same_true the_type (search rules) _ _ (sym c.eq.ensures ∙ c.if-eq.true),
  ap (λ k. get_or c.args.slots.now k 0) c.slot.ensures.value,
)
