use Rattle.std.proofs.Common.{◌≡◌, ℕ, ◌<◌, ◌≤◌, length, get_or}
use Rattle.json.specs.Json.{Json as Data, Members}
use Rattle.json.specs.Find.{BeginsWith, InMembers}
use Rattle.ocpi_json.specs.Inner.Picked.{name_at, index_in}
use Rattle.ocpi_json.specs.Inner.Places.{tokens_from}
use Rattle.ocpi_json.specs.Name.{key_text}
use Rattle.ocpi_json.proofs.Noting.{SoFar}
use Rattle.ocpi_json.proofs.picked.places_of.Given as goal

abbrev pub invariant-loop-key : goal.invariant-loop-key
invariant-loop-key l = record {
  tape : l.left.nodes ≡ l.object.nodes;
  within : l.next ≤ length l.names;
  long : length l.places ≡ 17;
  notes : (j : Data) → BeginsWith (tokens_from l.object) j → (rest : Members) × InMembers (tokens_from l.left) rest
      × ((i : ℕ) → i < length l.names → i ≡ index_in l.slots (name_at l.names i) → SoFar l.object (get_or l.places i 0) (key_text (name_at l.names i)) j rest);
}

abbrev pub decreases-loop-key : goal.decreases-loop-key
decreases-loop-key l = length (tokens_from l.left)
