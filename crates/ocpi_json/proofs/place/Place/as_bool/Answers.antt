use Rattle.std.proofs.Common.{◌∷◌, drop, ap, ◌∙◌, subst, arith}
use Rattle.json.specs.Tape.{node_token}
use Rattle.json.specs.Find.{BeginsWith}
use Rattle.ocpi_json.proofs.Tokens.{as_bool_here, as_bool_elsewhere}
use Rattle.ocpi_json.specs.Inner.Places.{tokens_from}
use Rattle.ocpi_json.proofs.place.Place.as_bool.Goals as goal

pub returns-in-Bool : goal.returns-in-Bool
returns-in-Bool c j begins =
    let rest = drop 1 (tokens_from c.args.self.now) in
    as_bool_here c.in-Bool.flag rest j (subst (λ ts. BeginsWith ts j) (c.node.ensures j begins ∙ ap (λ n. node_token n ∷ rest) c.in-Bool.is) begins)

pub returns-in_default : goal.returns-in_default
returns-in_default c j begins =
    as_bool_elsewhere c.node.result (drop 1 (tokens_from c.args.self.now)) j (λ x e. grind arith) (subst (λ ts. BeginsWith ts j) (c.node.ensures j begins) begins)
