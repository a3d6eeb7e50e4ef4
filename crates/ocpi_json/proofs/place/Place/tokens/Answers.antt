use Rattle.std.proofs.Common.{subst, arith}
use Rattle.std.proofs.lemmas.List.{drop_all, length-map}
use Rattle.json.specs.Tape.{node_token}
use Rattle.json.specs.Find.{BeginsWith}
use Rattle.json.proofs.Found.{not_empty}
use Rattle.json.proofs.Unique.Spelling.{value-json_tokens_back}
use Rattle.ocpi_json.proofs.Keeping.{tokens_between}
use Rattle.ocpi_json.specs.Inner.Places.{tokens_from}
use Rattle.ocpi_json.proofs.place.Place.tokens.Goals as goal

pub returns-then-self : goal.returns-then-self
returns-then-self c j begins =
    let p = c.args.self.now in
    let back = value-json_tokens_back begins.0 (tokens_from p) begins.1 j begins.2 in
    tokens_between p.nodes.now p.at c.after.result j begins.1 c.after.ensures.later c.after.ensures.within back (c.after.ensures.value begins.0 j begins.1 begins.2)

pub returns-else-self : goal.returns-else-self
returns-else-self c j begins =
    let p = c.args.self.now in
    absurd (not_empty j (subst (λ ts. BeginsWith ts j) (drop_all p.at _ (omega (arith, length-map p.nodes.now node_token))) begins))
