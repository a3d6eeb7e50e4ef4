use Rattle.std.proofs.Common.{◌∙◌}
use Rattle.ocpi_json.specs.Inner.Begun.{begun}
use Rattle.ocpi_json.specs.Inner.Places.{tokens_from}
use Rattle.ocpi_json.proofs.Keeping.{value_kept, keeps}
use Rattle.ocpi_json.proofs.Tapes.{has_begun}
use Rattle.ocpi_json.proofs.kept_value.KeptValue.of.Goals as goal

pub invariant_of-result : goal.invariant_of-result
invariant_of-result c =
    let ts = tokens_from c.node.inside.place in
    keeps _ _ c.tokens.result.now c.in_ok-tokens.ensures (begun ts) (c.tokens.ensures (begun ts) (has_begun ts c.node.invariant.1.has))

pub returns : goal.returns
returns c =
    let ts = tokens_from c.node.inside.place in
    value_kept _ _ c.tokens.result.now c.in_ok-tokens.ensures (begun ts) (c.tokens.ensures (begun ts) (has_begun ts c.node.invariant.1.has)) ∙ c.node.view_is
