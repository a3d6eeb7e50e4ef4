-- Places on one tape.
use Rattle.std.proofs.Common.{◌≡◌, sym, subst}
use Rattle.ocpi_json.specs.Inner.Places.{IsLinked}
use Rattle.json.specs.Tape.{node_token, Linked}
use Rattle.std.specs.Prelude.{map}
use Rattle.ocpi_json.specs.declared.place.Place.{Place}

-- a place on a linked tape is linked
pub linked_too : (p q : Place) → q.nodes ≡ p.nodes → IsLinked p → IsLinked q
linked_too p q same h = subst (λ nodes. Linked (map node_token nodes.now) 0 nodes.now) (sym same) h
