-- of_json of a marked value is total, and its keys are marked.
use Rattle.std.proofs.Common.{◌≡◌, ◌∷◌, true, ◌&&◌, Some, option_map, option_and_then, refl, ap, ◌∙◌}
use Rattle.json.specs.Json as json
use Rattle.serde_json.specs.Data as serde
use Rattle.serde_json.specs.Read.{of_json, of_items, of_members}
use Rattle.marked_lines.specs.Inner.Marks.{mark_json, mark_items, mark_members}
use Rattle.marked_lines.specs.MarkedReading.{marked_value, marked_items, marked_members, all_keys_marked, all_items_marked, all_members_marked}

mutual
  pub of_marked : (j : json.Json) → of_json (mark_json j) ≡ Some (marked_value j)
  of_marked json.null = refl
  of_marked (json.boolean b) = refl
  of_marked (json.number s) = refl
  of_marked (json.string s) = refl
  of_marked (json.array js) = ap (option_map serde.array) (of_marked_items js)
  of_marked (json.object ms) = ap (option_map serde.object) (of_marked_members ms serde.no_members)

  pub of_marked_items : (js : json.Items) → of_items (mark_items js) ≡ Some (marked_items js)
  of_marked_items json.no_items = refl
  of_marked_items (json.item j js) = ap (option_and_then (λ d. option_map (serde.item d) (of_items (mark_items js)))) (of_marked j) ∙ ap (option_map (serde.item (marked_value j))) (of_marked_items js)

  pub of_marked_members : (ms : json.Members) (found : serde.Members) → of_members (mark_members ms) found ≡ Some (marked_members ms found)
  of_marked_members json.no_members found = refl
  of_marked_members (json.member k j ms) found =
      ap (option_and_then (λ d. of_members (mark_members ms) (serde.put (115 ∷ k) d found))) (of_marked j) ∙ of_marked_members ms (serde.put (115 ∷ k) (marked_value j) found)

mutual
  pub keys_of_marked : (j : json.Json) → all_keys_marked (mark_json j) ≡ true
  keys_of_marked json.null = refl
  keys_of_marked (json.boolean b) = refl
  keys_of_marked (json.number s) = refl
  keys_of_marked (json.string s) = refl
  keys_of_marked (json.array js) = keys_of_marked_items js
  keys_of_marked (json.object ms) = keys_of_marked_members ms

  pub keys_of_marked_items : (js : json.Items) → all_items_marked (mark_items js) ≡ true
  keys_of_marked_items json.no_items = refl
  keys_of_marked_items (json.item j js) = ap (λ b. b && all_items_marked (mark_items js)) (keys_of_marked j) ∙ keys_of_marked_items js

  pub keys_of_marked_members : (ms : json.Members) → all_members_marked (mark_members ms) ≡ true
  keys_of_marked_members json.no_members = refl
  keys_of_marked_members (json.member k j ms) = ap (λ b. b && all_members_marked (mark_members ms)) (keys_of_marked j) ∙ keys_of_marked_members ms
