use Rattle.std.proofs.Common.{drop, map}
use Rattle.json.specs.Tape.{node_token}
use Rattle.ocpi_json.specs.Inner.Kept.{Spells}
use Rattle.ocpi_json.proofs.kept_tokens.are_same.Given as goal

abbrev pub invariant-loop-node : goal.invariant-loop-node
invariant-loop-node l = record {
  forth : Spells l.left_marks l.left_texts (map node_token (drop l.node-index l.nodes)) → Spells l.marks l.texts (map node_token l.nodes);
  back : Spells l.marks l.texts (map node_token l.nodes) → Spells l.left_marks l.left_texts (map node_token (drop l.node-index l.nodes));
}
