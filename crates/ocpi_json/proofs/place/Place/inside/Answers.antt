use Rattle.std.proofs.Common.{◌≡◌, ◌+◌, ◌<◌, map, length, drop, sym, ap, ◌∙◌, subst, arith, lt_of_not-le}
use Rattle.std.proofs.lemmas.List.{drop_all, drop-drop, length-map}
use Rattle.json.specs.Tape.{node_token}
use Rattle.json.specs.Find.{BeginsWith}
use Rattle.json.proofs.Found.{not_empty}
use Rattle.ocpi_json.proofs.place.Place.inside.Goals as goal

pub returns-clause-value : goal.returns-clause-value
returns-clause-value c j begins =
    let p = c.args.self.now in
    let all = map node_token p.nodes.now in
    let within : p.at < length p.nodes.now = lt_of_not-le (λ h. not_empty j (subst (λ ts. BeginsWith ts j) (drop_all p.at all (omega (arith, length-map p.nodes.now node_token))) begins)) in
    let next : c.saturating_add.result ≡ p.at + 1 = omega arith in
    ap (λ k. drop k all) next ∙ sym (drop-drop 1 p.at all)
