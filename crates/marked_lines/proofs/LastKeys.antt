-- The keys of a value with its marks are marked.
use Rattle.std.proofs.Common.{◌≡◌, ℕ, List, ◌∷◌, Bool, true, false, ◌&&◌, refl}
use Rattle.std.proofs.lemmas.Bool.{false≢true, and_parts}
use Rattle.std.specs.Ordering.{nat_cmp, match_ordering}
use Rattle.std.specs.Cmp.Lexicographic.{slice_cmp}
use Rattle.std.specs.declared.cmp.Ordering.{Ordering}
use Rattle.std.specs.declared.cmp.Ordering.TheVariants.{Less, Equal, Greater}
use Rattle.json.specs.Json as json
use Rattle.serde_json.specs.Data as serde
use Rattle.marked_lines.specs.MarkedReading.{is_marked_key, marked_value, marked_items, marked_members, last_keys_marked, last_items_marked, last_members_marked}

both_so : (a b : Bool) → a ≡ true → b ≡ true → (a && b) ≡ true
both_so true b h g = g
both_so false b h g = absurd (false≢true h)

put_keys : (k : List ℕ) (d : serde.Data) (ms : serde.Members) → last_keys_marked d ≡ true → last_members_marked ms ≡ true → last_members_marked (serde.put (115 ∷ k) d ms) ≡ true
put_keys k d serde.no_members h g = both_so (last_keys_marked d) true h refl
put_keys k d (serde.member l e ms) h g =
    let outer = and_parts (is_marked_key l) (last_keys_marked e && last_members_marked ms) g in
    let inner = and_parts (last_keys_marked e) (last_members_marked ms) outer.1 in
    step (slice_cmp nat_cmp (115 ∷ k) l) outer.0 inner.0 inner.1 (put_keys k d ms h inner.1)
  where
    step : (o : Ordering) → is_marked_key l ≡ true → last_keys_marked e ≡ true → last_members_marked ms ≡ true → last_members_marked (serde.put (115 ∷ k) d ms) ≡ true
        → last_members_marked (match_ordering o (serde.member (115 ∷ k) d (serde.member l e ms)) (serde.member l d ms) (serde.member l e (serde.put (115 ∷ k) d ms))) ≡ true
    step Less i j n ih = both_so (last_keys_marked d) (last_members_marked (serde.member l e ms)) h g
    step Equal i j n ih = both_so (is_marked_key l) (last_keys_marked d && last_members_marked ms) i (both_so (last_keys_marked d) (last_members_marked ms) h n)
    step Greater i j n ih = both_so (is_marked_key l) (last_keys_marked e && last_members_marked (serde.put (115 ∷ k) d ms)) i (both_so (last_keys_marked e) (last_members_marked (serde.put (115 ∷ k) d ms)) j ih)

mutual
  pub value_keys : (j : json.Json) → last_keys_marked (marked_value j) ≡ true
  value_keys json.null = refl
  value_keys (json.boolean b) = refl
  value_keys (json.number s) = refl
  value_keys (json.string s) = refl
  value_keys (json.array js) = items_keys js
  value_keys (json.object ms) = members_keys ms serde.no_members refl

  items_keys : (js : json.Items) → last_items_marked (marked_items js) ≡ true
  items_keys json.no_items = refl
  items_keys (json.item j js) = both_so (last_keys_marked (marked_value j)) (last_items_marked (marked_items js)) (value_keys j) (items_keys js)

  members_keys : (ms : json.Members) (found : serde.Members) → last_members_marked found ≡ true → last_members_marked (marked_members ms found) ≡ true
  members_keys json.no_members found h = h
  members_keys (json.member k j ms) found h = members_keys ms (serde.put (115 ∷ k) (marked_value j) found) (put_keys k (marked_value j) found (value_keys j) h)
