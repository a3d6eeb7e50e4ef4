-- Places on the tape of a line.
use Rattle.std.specs.Prelude.{◌≡◌, ℕ, List, [], map, drop, Option, Some, None}
use Rattle.json.specs.Json.{Json as Data}
use Rattle.json.specs.Token.{Token}
use Rattle.json.specs.declared.tape.Node.{Node}
use Rattle.std.specs.Borrow.{Bor}
use Rattle.json.specs.Tape.{node_token, Linked}
use Rattle.ocpi_json.specs.Inner.Begun.{listed, Listed}
use Rattle.ocpi_json.specs.declared.place.Place.{Place}

-- the place of that number on a tape
abbrev pub place_at : Bor (List Node) → ℕ → Place
place_at nodes at = record { nodes = nodes; at = at }

-- the tokens of the tape from the place on
abbrev pub tokens_from : Place → List Token
tokens_from p = drop p.at (map node_token p.nodes.now)

-- each link of the place's tape passes one whole value
abbrev pub IsLinked : Place → Type 0
IsLinked p = Linked (map node_token p.nodes.now) 0 p.nodes.now

-- the items from the place on, if there is one
abbrev pub listed_if_any : Option Place → List Data
listed_if_any None = []
listed_if_any (Some p) = listed (tokens_from p)

-- so many items stand from the place on, if there is one
abbrev pub IsRow : Option Place → ℕ → Type 0
IsRow None len = len ≡ 0
IsRow (Some p) len = IsLinked p × Listed (tokens_from p) len
