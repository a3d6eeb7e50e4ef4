use Rattle.std.proofs.Common.{◌∷◌, drop, sym, ap, ◌∙◌, subst, arith}
use Rattle.json.specs.Json.{object}
use Rattle.json.specs.Tape.{node_token}
use Rattle.json.specs.Find.{BeginsWith, InMembers}
use Rattle.json.proofs.Found.{opened}
use Rattle.ocpi_json.proofs.Tokens.{no_object, an_object}
use Rattle.ocpi_json.specs.Inner.Places.{tokens_from}
use Rattle.ocpi_json.proofs.place.Place.members.Goals as goal

pub returns-in-Object-clause-value : goal.returns-in-Object-clause-value
returns-in-Object-clause-value c j begins =
    let ts = tokens_from c.args.self.now in
    let rest = drop 1 ts in
    let shape = an_object c.in-Object.field-0 rest j (subst (λ ts. BeginsWith ts j) (c.node.ensures j begins ∙ ap (λ n. node_token n ∷ rest) c.in-Object.is) begins) in
    (shape.0, shape.1, subst (λ ts. InMembers ts shape.0) (sym (c.inside.ensures.value j begins)) (opened ts (object shape.0) (subst (BeginsWith ts) shape.1 begins)))

pub returns-in_default-clause-value : goal.returns-in_default-clause-value
returns-in_default-clause-value c j begins =
    no_object c.node.result (drop 1 (tokens_from c.args.self.now)) j (λ x e. grind arith) (subst (λ ts. BeginsWith ts j) (c.node.ensures j begins) begins)
