-- What the marks do to a token and to a value of the grammar.
use Rattle.std.specs.Prelude.{◌∷◌}
use Rattle.json.specs.Token.{Token}
use Rattle.json.specs.Json as json

abbrev pub mark_token : Token → Token
mark_token Token.begin_object = Token.begin_object
mark_token Token.end_object = Token.end_object
mark_token Token.begin_array = Token.begin_array
mark_token Token.end_array = Token.end_array
mark_token (Token.key s) = Token.key (115 ∷ s)
mark_token (Token.string s) = Token.string (115 ∷ s)
mark_token (Token.number s) = Token.string (110 ∷ s)
mark_token (Token.boolean b) = Token.boolean b
mark_token Token.null = Token.null
mark_token Token.bad = Token.bad

abbrev mutual
  pub mark_json : json.Json → json.Json
  mark_json json.null = json.null
  mark_json (json.boolean b) = json.boolean b
  mark_json (json.number s) = json.string (110 ∷ s)
  mark_json (json.string s) = json.string (115 ∷ s)
  mark_json (json.array js) = json.array (mark_items js)
  mark_json (json.object ms) = json.object (mark_members ms)

  pub mark_items : json.Items → json.Items
  mark_items json.no_items = json.no_items
  mark_items (json.item j js) = json.item (mark_json j) (mark_items js)

  pub mark_members : json.Members → json.Members
  mark_members json.no_members = json.no_members
  mark_members (json.member k j ms) = json.member (115 ∷ k) (mark_json j) (mark_members ms)
