use Rattle.std.proofs.Common.{◌∷◌, drop, sym, ap, ◌∙◌, subst, arith}
use Rattle.json.specs.Json.{array}
use Rattle.json.specs.Tape.{node_token}
use Rattle.json.specs.Find.{BeginsWith, InItems}
use Rattle.json.proofs.Found.{opened}
use Rattle.ocpi_json.proofs.Tokens.{no_array, an_array}
use Rattle.ocpi_json.specs.Inner.Places.{tokens_from}
use Rattle.ocpi_json.proofs.place.Place.items.Goals as goal

pub returns-in-Array-clause-value : goal.returns-in-Array-clause-value
returns-in-Array-clause-value c j begins =
    let ts = tokens_from c.args.self.now in
    let rest = drop 1 ts in
    let shape = an_array c.in-Array.field-0 rest j (subst (λ ts. BeginsWith ts j) (c.node.ensures j begins ∙ ap (λ n. node_token n ∷ rest) c.in-Array.is) begins) in
    (shape.0, shape.1, subst (λ ts. InItems ts shape.0) (sym (c.inside.ensures.value j begins)) (opened ts (array shape.0) (subst (BeginsWith ts) shape.1 begins)))

pub returns-in_default-clause-value : goal.returns-in_default-clause-value
returns-in_default-clause-value c j begins =
    no_array c.node.result (drop 1 (tokens_from c.args.self.now)) j (λ x e. grind arith) (subst (λ ts. BeginsWith ts j) (c.node.ensures j begins) begins)
