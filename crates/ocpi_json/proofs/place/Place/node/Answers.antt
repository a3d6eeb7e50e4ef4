use Rattle.std.proofs.Common.{◌∷◌, map, get_or, sym, ap, ◌∙◌, subst, arith}
use Rattle.std.proofs.lemmas.List.{drop_all, drop-drop, length-map}
use Rattle.json.specs.Tape.{node_token}
use Rattle.json.specs.Find.{BeginsWith}
use Rattle.json.specs.declared.tape.Node.TheVariants.{Object}
use Rattle.json.proofs.Found.{not_empty}
use Rattle.ocpi_json.proofs.Tokens.{here}
use Rattle.ocpi_json.proofs.place.Place.node.Goals as goal

pub returns-then-self : goal.returns-then-self
returns-then-self c j begins =
    let p = c.args.self.now in
    let all = map node_token p.nodes.now in
    here p.nodes.now p.at (Object 0) (omega arith) ∙ ap (λ ts. node_token (get_or p.nodes.now p.at (Object 0)) ∷ ts) (sym (drop-drop 1 p.at all))

pub returns-else-self : goal.returns-else-self
returns-else-self c j begins =
    let p = c.args.self.now in
    absurd (not_empty j (subst (λ ts. BeginsWith ts j) (drop_all p.at _ (omega (arith, length-map p.nodes.now node_token))) begins))
