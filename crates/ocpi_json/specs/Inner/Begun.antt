-- The value that tokens begin with.
use Rattle.std.proofs.Common.{◌≡◌, ℕ, ◌^◌, ◌<◌, ◌≤◌, List, [], ◌∷◌, ◌++◌, length, Option, Some, None, sym, ap, ◌∙◌, arith, append-nil, length-append}
use Rattle.std.specs.Prelude.{unwrap_or}
use Rattle.std.specs.Coded.{Coded, code_by, coded×, coded_ℕ, coded_list}
use Rattle.json.specs.Token.{Token, tokens_code}
use Rattle.json.specs.Json.{Json as Data, null, boolean, number, string, array, object, Items, no_items, item, Members, no_members, member, value}
use Rattle.json.specs.Find.{HasValue, InItems, InMembers}
use Rattle.json.specs.Tree.{json_tokens, items_tokens, members_tokens, depth, items_depth, members_depth}
use Rattle.json.proofs.Printed.Trees.{value-json_tokens}
use Rattle.ocpi_json.specs.Fields.{as_items, as_members}

abbrev first_or_null : Option (Data × List Token) → Data
first_or_null None = null
first_or_null (Some p) = p.0

-- the value that they begin with, or null where they begin with none
unfoldable pub begun : List Token → Data
begun ts = first_or_null (value (length ts) ts)

-- the items up to the bracket that closes their array
abbrev pub listed : List Token → List Data
listed ts = unwrap_or (as_items (begun (Token.begin_array ∷ ts))) []

-- a value begins here, of fewer tokens than an index can count
pub record Placed (ts : List Token) : Type 0 where
  pub has : HasValue ts
  pub few : length (json_tokens (begun ts)) < 2 ^ 64

-- the tokens begin with items, and the bracket that closes their array
abbrev pub HasItems : List Token → Type 0
HasItems ts = (js : Items) × InItems ts js

-- so many items stand here, and the bracket that closes their array
pub record Listed (ts : List Token) (len : ℕ) : Type 0 where
  pub has : HasItems ts
  pub few : length (json_tokens (begun (Token.begin_array ∷ ts))) < 2 ^ 64
  pub full : len ≡ length (listed ts)

-- the members up to the bracket that closes their object
abbrev pub named : List Token → List (List ℕ × Data)
named ts = unwrap_or (as_members (begun (Token.begin_object ∷ ts))) []

-- members stand here, and the bracket that closes their object
pub record Named (ts : List Token) : Type 0 where
  pub has : (ms : Members) × InMembers ts ms
  pub few : length (json_tokens (begun (Token.begin_object ∷ ts))) < 2 ^ 64

-- ---- how the logic stores a value: as its tokens

mutual
  depth_within : (j : Data) → depth j ≤ length (json_tokens j)
  depth_within null = omega arith
  depth_within (boolean b) = omega arith
  depth_within (number s) = omega arith
  depth_within (string s) = omega arith
  depth_within (array js) = omega (arith, items_depth_within js)
  depth_within (object ms) = omega (arith, members_depth_within ms)

  items_depth_within : (js : Items) → items_depth js ≤ length (items_tokens js)
  items_depth_within no_items = omega arith
  items_depth_within (item j js) =
      omega (arith, depth_within j, items_depth_within js, length-append (json_tokens j) (items_tokens js))

  members_depth_within : (ms : Members) → members_depth ms ≤ length (members_tokens ms)
  members_depth_within no_members = omega arith
  members_depth_within (member k j ms) =
      omega (arith, depth_within j, members_depth_within ms, length-append (json_tokens j) (members_tokens ms))

pub begun-before : (j : Data) (rest : List Token) → begun (json_tokens j ++ rest) ≡ j
unfolding begun
begun-before j rest =
    ap first_or_null (value-json_tokens j (length (json_tokens j ++ rest)) rest (omega (arith, depth_within j, length-append (json_tokens j) rest)))

pub begun-json_tokens : (j : Data) → begun (json_tokens j) ≡ j
begun-json_tokens j = ap begun (sym (append-nil (json_tokens j))) ∙ begun-before j []

abbrev pub data_code : Coded Data
data_code = code_by (List Token) tokens_code json_tokens begun begun-json_tokens

abbrev pub members_code : Coded (List (List ℕ × Data))
members_code = coded_list (coded× (coded_list coded_ℕ) data_code)
