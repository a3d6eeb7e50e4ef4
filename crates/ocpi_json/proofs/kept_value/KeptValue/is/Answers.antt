use Rattle.std.proofs.Common.{sym, ap, ◌∙◌, subst}
use Rattle.json.specs.Tree.{json_tokens}
use Rattle.ocpi_json.specs.Inner.Begun.{begun}
use Rattle.ocpi_json.specs.Inner.Kept.{Spells}
use Rattle.ocpi_json.specs.Inner.Places.{tokens_from}
use Rattle.ocpi_json.proofs.Keeping.{value_kept, same_value}
use Rattle.ocpi_json.proofs.Tapes.{has_begun}
use Rattle.ocpi_json.proofs.kept_value.KeptValue.is.Goals as goal

pub returns : goal.returns
returns c =
    let ms = c.self.inside.tokens.marks.items in
    let xs = c.self.inside.tokens.texts.items in
    let ts = tokens_from c.node.inside.place in
    let j = c.args.node.now in
    let are = c.tokens.ensures (begun ts) (has_begun ts c.node.invariant.1.has) ∙ ap json_tokens c.node.view_is in (
      λ h. sym c.self.view_is ∙ value_kept ms xs c.tokens.result.now (c.are.ensures.0 h) j are,
      λ e. c.are.ensures.1 (subst (Spells ms xs) (sym are) (same_value ms xs j c.self.invariant (c.self.view_is ∙ e))),
    )
