use Rattle.std.proofs.Common.{◌≡◌, ◌≤◌, ◌-◌, drop, length, map}
use Rattle.json.specs.Tape.{node_token}
use Rattle.ocpi_json.specs.Inner.Levels.{stays_within}
use Rattle.ocpi_json.proofs.reading.stays_within.Given as goal

abbrev pub invariant-loop-at : goal.invariant-loop-at
invariant-loop-at l = record {
  inside : l.at ≤ length l.nodes;
  within : l.deep ≤ 127;
  same : stays_within 0 (map node_token l.nodes) ≡ stays_within l.deep (drop l.at (map node_token l.nodes));
}

abbrev pub decreases-loop-at : goal.decreases-loop-at
decreases-loop-at l = length l.nodes - l.at
