use Rattle.std.proofs.Common.{◌≡◌, map, length, sym, ap, ◌∙◌, subst, arith}
use Rattle.json.specs.Find.{HasValue}
use Rattle.json.specs.Tape.{node_token, Linked}
use Rattle.ocpi_json.proofs.Tapes.{placed}
use Rattle.ocpi_json.proofs.node.Line.value.Goals as goal

pub invariant_of-result : goal.invariant_of-result
invariant_of-result c =
    let nodes = c.nodes.result.now in
    let tokens = c.nodes.ensures.tokens in
    let root : map node_token nodes ≡ c.root-root.result = tokens ∙ sym c.root-root.ensures.same in (
      subst (λ ts. Linked ts 0 nodes) (sym tokens) c.nodes.ensures.links,
      placed (map node_token nodes) (subst HasValue (sym root) c.root-root.ensures.value) (omega (arith, c.len-len.type_inv, c.len-len.ensures, ap length tokens)),
    )
