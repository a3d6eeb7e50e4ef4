use Rattle.std.proofs.Common.{◌≡◌, length, Option, option_map}
use Rattle.std.specs.Prelude.{IfSome}
use Rattle.json.specs.Json.{Json as Data, Members}
use Rattle.json.specs.Find.{BeginsWith, InMembers, Finds, later_or, get_member, get}
use Rattle.ocpi_json.specs.Inner.Places.{tokens_from}
use Rattle.ocpi_json.proofs.place.Place.get.Given as goal

abbrev pub invariant-loop-key : goal.invariant-loop-key
invariant-loop-key l = record {
  value : (j : Data) → BeginsWith (tokens_from l.self) j → (rest : Members) × (earlier : Option Data) × InMembers (tokens_from l.left) rest
      × Finds (option_map tokens_from l.found) earlier × (get l.name j ≡ later_or (get_member l.name rest) earlier);
  tape : l.left.nodes ≡ l.self.nodes;
  found : IfSome l.found (λ member. member.nodes ≡ l.self.nodes);
}

abbrev pub decreases-loop-key : goal.decreases-loop-key
decreases-loop-key l = length (tokens_from l.left)
