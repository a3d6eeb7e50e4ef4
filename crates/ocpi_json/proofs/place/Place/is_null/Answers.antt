use Rattle.std.proofs.Common.{drop, sym, ap, ◌∙◌, subst, arith}
use Rattle.json.specs.Find.{BeginsWith}
use Rattle.ocpi_json.proofs.Tokens.{is_null_node, null_here, other_node}
use Rattle.ocpi_json.specs.Inner.Places.{tokens_from}
use Rattle.ocpi_json.proofs.place.Place.is_null.Goals as goal

pub returns-in-Null : goal.returns-in-Null
returns-in-Null c j begins =
    ap is_null_node (sym c.in-Null.is) ∙ null_here c.node.result (drop 1 (tokens_from c.args.self.now)) j (subst (λ ts. BeginsWith ts j) (c.node.ensures j begins) begins)

pub returns-in_default : goal.returns-in_default
returns-in_default c j begins =
    other_node c.node.result (λ e. grind arith) ∙ null_here c.node.result (drop 1 (tokens_from c.args.self.now)) j (subst (λ ts. BeginsWith ts j) (c.node.ensures j begins) begins)
