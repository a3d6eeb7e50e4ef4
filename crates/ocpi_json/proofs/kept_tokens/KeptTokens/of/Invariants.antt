use Rattle.std.proofs.Common.{map, take}
use Rattle.json.specs.Tape.{node_token}
use Rattle.ocpi_json.specs.Inner.Kept.{Spells}
use Rattle.ocpi_json.proofs.kept_tokens.KeptTokens.of.Given as goal

abbrev pub invariant-loop-node : goal.invariant-loop-node
invariant-loop-node l = Spells l.marks.items l.texts.items (map node_token (take l.node-index l.nodes))
