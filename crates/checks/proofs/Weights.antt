-- How many tokens stand in the items of an array, and in the members of an object.
use Rattle.std.proofs.Common.{◌≡◌, ℕ, ◌+◌, ◌<◌, ◌≤◌, List, [], ◌∷◌, length, Some, ap, sym, arith, length-append}
use Rattle.json.specs.Json.{Json as Data, null, boolean, number, string, array, object, Items, no_items, item, Members, no_members, member}
use Rattle.json.specs.Tree.{json_tokens, items_tokens, members_tokens}
use Rattle.json.proofs.Found.{not_found, Some_inj}
use Rattle.ocpi_json.specs.Fields.{items_list, as_items, members_list, as_members}

abbrev pub weight : Data → ℕ
weight d = length (json_tokens d)

abbrev pub weights : List Data → ℕ
weights [] = 0
weights (d ∷ ds) = weight d + weights ds

abbrev pub member_weights : List (List ℕ × Data) → ℕ
member_weights [] = 0
member_weights (m ∷ ms) = weight m.1 + member_weights ms

items_weigh : (js : Items) → weights (items_list js) + 1 ≤ length (items_tokens js)
items_weigh no_items = omega arith
items_weigh (item j js) = omega (arith, items_weigh js, length-append (json_tokens j) (items_tokens js))

members_weigh : (ms : Members) → member_weights (members_list ms) + 1 ≤ length (members_tokens ms)
members_weigh no_members = omega arith
members_weigh (member k j ms) = omega (arith, members_weigh ms, length-append (json_tokens j) (members_tokens ms))

pub items_lighter : (j : Data) (ds : List Data) → Some ds ≡ as_items j → weights ds + 1 < weight j
items_lighter null ds e = not_found ds (sym e)
items_lighter (boolean b) ds e = not_found ds (sym e)
items_lighter (number s) ds e = not_found ds (sym e)
items_lighter (string s) ds e = not_found ds (sym e)
items_lighter (array js) ds e = omega (arith, items_weigh js, ap weights (Some_inj ds (items_list js) e))
items_lighter (object ms) ds e = not_found ds (sym e)

pub members_lighter : (j : Data) (ds : List (List ℕ × Data)) → Some ds ≡ as_members j → member_weights ds + 1 < weight j
members_lighter null ds e = not_found ds (sym e)
members_lighter (boolean b) ds e = not_found ds (sym e)
members_lighter (number s) ds e = not_found ds (sym e)
members_lighter (string s) ds e = not_found ds (sym e)
members_lighter (array js) ds e = not_found ds (sym e)
members_lighter (object ms) ds e = omega (arith, members_weigh ms, ap member_weights (Some_inj ds (members_list ms) e))
