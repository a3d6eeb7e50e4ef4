use Rattle.std.proofs.Common.{rules, sym, ap, ◌∙◌, length}
use denote.Enum.Bare.{differs_false}
use Rattle.json.specs.Tape.{node_token}
use Rattle.ocpi_json.specs.contracts.kept_tokens.Kind.{the_type}
use Rattle.ocpi_json.proofs.Keeping.{mark_is, stripped, not_stripped}
use Rattle.ocpi_json.proofs.kept_tokens.texts_after.Goals as goal

pub returns-clause-same : goal.returns-clause-same
returns-clause-same c =
    let t = node_token c.args.node.now in
    let kinds = differs_false the_type (search rules) _ _ (sym c.ne.ensures ∙ c.if-ne.false) ∙ c.kind_of.ensures in
    let same = mark_is c.args.mark t kinds (c.if-mark-text.false ∙ ap length c.text_of-text.ensures) in
    stripped c.args.mark t c.args.texts.now c.text_of-text.result.now c.strip_prefix.result c.text_of-text.ensures same c.strip_prefix.ensures.cases

pub returns-clause-other : goal.returns-clause-other
returns-clause-other c =
    not_stripped c.args.mark (node_token c.args.node.now) c.args.texts.now c.text_of-text.result.now c.strip_prefix.result c.text_of-text.ensures c.strip_prefix.ensures.cases
