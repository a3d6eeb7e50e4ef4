-- A value all of whose keys are marked was read from tokens without fault, whose keys are marked.
use Rattle.std.proofs.Common.{◌≡◌, ℕ, zero, suc, List, [], ◌∷◌, length, Bool, true, false, ◌&&◌, Option, Some, None, option_and_then}
use Rattle.std.proofs.lemmas.Bool.{false≢true, and_parts}
use Rattle.json.specs.Token.{Token}
use Rattle.json.specs.Json.{Json, array, object, Items, item, Members, member, Parse, parse_map, after_end_array, read_key, items_step, members_step, items, members, value_with, value}
use Rattle.marked_lines.specs.MarkedReading.{is_marked_key, all_keys_marked, all_items_marked, all_members_marked}
use Rattle.marked_lines.proofs.Backward.{keyed}

both_so : (a b : Bool) → a ≡ true → b ≡ true → (a && b) ≡ true
both_so true b h g = g
both_so false b h g = absurd (false≢true h)

-- the tokens are keyed if what was read is marked and what is left is keyed
abbrev pub Kept : {A : Type 0} → (A → Bool) → List Token → Option (A × List Token) → Type 0
Kept ok ts None = Unit {0}
Kept ok ts (Some p) = ok p.0 ≡ true → keyed p.1 ≡ true → keyed ts ≡ true

abbrev KeptEnd : List Token → Option (List Token) → Type 0
KeptEnd ts None = Unit {0}
KeptEnd ts (Some r) = keyed r ≡ true → keyed ts ≡ true

abbrev key_ok : Option (List ℕ) → Bool
key_ok None = true
key_ok (Some k) = is_marked_key k

after_end-kept : (ts : List Token) → KeptEnd ts (after_end_array ts)
after_end-kept [] = tt
after_end-kept (Token.begin_object ∷ ts) = tt
after_end-kept (Token.end_object ∷ ts) = tt
after_end-kept (Token.begin_array ∷ ts) = tt
after_end-kept (Token.end_array ∷ ts) = λ h. h
after_end-kept (Token.key s ∷ ts) = tt
after_end-kept (Token.string s ∷ ts) = tt
after_end-kept (Token.number s ∷ ts) = tt
after_end-kept (Token.boolean b ∷ ts) = tt
after_end-kept (Token.null ∷ ts) = tt
after_end-kept (Token.bad ∷ ts) = tt

read_key-kept : (ts : List Token) → Kept key_ok ts (read_key ts)
read_key-kept [] = tt
read_key-kept (Token.begin_object ∷ ts) = tt
read_key-kept (Token.end_object ∷ ts) = λ h g. g
read_key-kept (Token.begin_array ∷ ts) = tt
read_key-kept (Token.end_array ∷ ts) = tt
read_key-kept (Token.key s ∷ ts) = λ h g. both_so (is_marked_key s) (keyed ts) h g
read_key-kept (Token.string s ∷ ts) = tt
read_key-kept (Token.number s ∷ ts) = tt
read_key-kept (Token.boolean b ∷ ts) = tt
read_key-kept (Token.null ∷ ts) = tt
read_key-kept (Token.bad ∷ ts) = tt

module _ (p : Parse Json) (pk : (ts : List Token) → Kept all_keys_marked ts (p ts)) where
  items-kept : (n : ℕ) (ts : List Token) → Kept all_items_marked ts (items p n ts)
  unfolding items
  items-kept zero ts = tt
  items-kept (suc n) ts = step (λ us. items-kept n us) (after_end_array ts) (after_end-kept ts)
    where
      last : (j : Json) (us : List Token) (r : Option (Items × List Token)) → (all_keys_marked j ≡ true → keyed us ≡ true → keyed ts ≡ true) → Kept all_items_marked us r → Kept all_items_marked ts (parse_map (item j) r)
      last j us None f h = tt
      last j us (Some r) f h = λ a b. let q = and_parts (all_keys_marked j) (all_items_marked r.0) a in f q.0 (h q.1 b)

      first : ((us : List Token) → Kept all_items_marked us (items p n us)) → (v : Option (Json × List Token)) → Kept all_keys_marked ts v → Kept all_items_marked ts (option_and_then (λ q. parse_map (item q.0) (items p n q.1)) v)
      first ih None h = tt
      first ih (Some q) h = last q.0 q.1 (items p n q.1) h (ih q.1)

      step : ((us : List Token) → Kept all_items_marked us (items p n us)) → (e : Option (List Token)) → KeptEnd ts e → Kept all_items_marked ts (items_step p (items p n) ts e)
      step ih (Some r) h = λ a b. h b
      step ih None h = first ih (p ts) (pk ts)

  members-kept : (n : ℕ) (ts : List Token) → Kept all_members_marked ts (members p n ts)
  unfolding members
  members-kept zero ts = tt
  members-kept (suc n) ts = step (λ us. members-kept n us) (read_key ts) (read_key-kept ts)
    where
      last : (k : List ℕ) (j : Json) (us : List Token) (r : Option (Members × List Token)) → (is_marked_key k ≡ true → all_keys_marked j ≡ true → keyed us ≡ true → keyed ts ≡ true) → Kept all_members_marked us r → Kept all_members_marked ts (parse_map (member k j) r)
      last k j us None f h = tt
      last k j us (Some r) f h = λ a b.
          let o = and_parts (is_marked_key k) (all_keys_marked j && all_members_marked r.0) a in
          let q = and_parts (all_keys_marked j) (all_members_marked r.0) o.1 in f o.0 q.0 (h q.1 b)

      first : ((us : List Token) → Kept all_members_marked us (members p n us)) → (k : List ℕ) (us : List Token) → (is_marked_key k ≡ true → keyed us ≡ true → keyed ts ≡ true) → (v : Option (Json × List Token)) → Kept all_keys_marked us v
          → Kept all_members_marked ts (option_and_then (λ q. parse_map (member k q.0) (members p n q.1)) v)
      first ih k us f None h = tt
      first ih k us f (Some q) h = last k q.0 q.1 (members p n q.1) (λ a b c. f a (h b c)) (ih q.1)

      keyed_step : ((us : List Token) → Kept all_members_marked us (members p n us)) → (k : Option (List ℕ)) (us : List Token) → (key_ok k ≡ true → keyed us ≡ true → keyed ts ≡ true) → Kept all_members_marked ts (members_step p (members p n) k us)
      keyed_step ih None us f = f
      keyed_step ih (Some k) us f = first ih k us f (p us) (pk us)

      step : ((us : List Token) → Kept all_members_marked us (members p n us)) → (e : Option (Option (List ℕ) × List Token)) → Kept key_ok ts e → Kept all_members_marked ts (option_and_then (λ q. members_step p (members p n) q.0 q.1) e)
      step ih None h = tt
      step ih (Some q) h = keyed_step ih q.0 q.1 h

array-kept : (ts us : List Token) (r : Option (Items × List Token)) → (keyed us ≡ true → keyed ts ≡ true) → Kept all_items_marked us r → Kept all_keys_marked ts (parse_map array r)
array-kept ts us None f h = tt
array-kept ts us (Some r) f h = λ a b. f (h a b)

object-kept : (ts us : List Token) (r : Option (Members × List Token)) → (keyed us ≡ true → keyed ts ≡ true) → Kept all_members_marked us r → Kept all_keys_marked ts (parse_map object r)
object-kept ts us None f h = tt
object-kept ts us (Some r) f h = λ a b. f (h a b)

with-kept : (a : Parse Items) (o : Parse Members) → ((ts : List Token) → Kept all_items_marked ts (a ts)) → ((ts : List Token) → Kept all_members_marked ts (o ts)) → (ts : List Token) → Kept all_keys_marked ts (value_with a o ts)
with-kept a o al ol [] = tt
with-kept a o al ol (Token.begin_object ∷ ts) = object-kept (Token.begin_object ∷ ts) ts (o ts) (λ h. h) (ol ts)
with-kept a o al ol (Token.end_object ∷ ts) = tt
with-kept a o al ol (Token.begin_array ∷ ts) = array-kept (Token.begin_array ∷ ts) ts (a ts) (λ h. h) (al ts)
with-kept a o al ol (Token.end_array ∷ ts) = tt
with-kept a o al ol (Token.key s ∷ ts) = tt
with-kept a o al ol (Token.string s ∷ ts) = λ h g. g
with-kept a o al ol (Token.number s ∷ ts) = λ h g. g
with-kept a o al ol (Token.boolean b ∷ ts) = λ h g. g
with-kept a o al ol (Token.null ∷ ts) = λ h g. g
with-kept a o al ol (Token.bad ∷ ts) = tt

pub value-kept : (depth : ℕ) (ts : List Token) → Kept all_keys_marked ts (value depth ts)
unfolding value
value-kept zero ts = with-kept (λ ts. None) (λ ts. None) (λ ts. tt) (λ ts. tt) ts
value-kept (suc d) ts =
    with-kept (λ ts. items (value d) (length ts) ts) (λ ts. members (value d) (length ts) ts) (λ ts. items-kept (value d) (value-kept d) (length ts) ts) (λ ts. members-kept (value d) (value-kept d) (length ts) ts) ts
