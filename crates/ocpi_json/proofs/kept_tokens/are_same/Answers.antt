use Rattle.std.proofs.Common.{◌≡◌, ◌+◌, ◌∷◌, map, drop, get_or, sym, ap, subst, arith}
use Rattle.std.proofs.lemmas.List.{drop_more}
use Rattle.json.specs.Tape.{node_token}
use Rattle.json.specs.declared.tape.Node.TheVariants.{Object}
use Rattle.ocpi_json.specs.Inner.Kept.{Spells}
use Rattle.ocpi_json.proofs.Keeping.{spells_first, spells_later}
use Rattle.ocpi_json.proofs.kept_tokens.are_same.Goals as goal

pub loop-node-preserved : goal.loop-node-preserved
loop-node-preserved c =
    let ns = c.args.nodes.now in
    let i = c.loop-node.node-index in
    let t = node_token (get_or ns i (Object 0)) in
    let ts = map node_token (drop (i + 1) ns) in
    let split : map node_token (drop i ns) ≡ t ∷ ts = ap (map node_token) (drop_more ns i (Object 0) (omega arith)) in
    let m = c.in-Some.mark.now in
    let ms = c.in-Some.later.now in
    let xs = c.loop-node.left_texts.now in
    let rest = c.in-Some-texts_after.rest.now in
    let same = c.in-Some-texts_after.ensures.same in
    let first : c.loop-node.left_marks.now ≡ m ∷ ms = c.in-Some.ensures.cases.0 in
    record {
      forth = λ h. c.loop-node.invariant.forth (subst (λ l. Spells l xs (map node_token (drop i ns))) (sym first) (subst (Spells (m ∷ ms) xs) (sym split) (spells_first m ms xs rest t ts same.0 same.1 h)));
      back = λ h. spells_later m ms xs rest t ts same.1 (subst (Spells (m ∷ ms) xs) split (subst (λ l. Spells l xs (map node_token (drop i ns))) first (c.loop-node.invariant.back h)));
    }
