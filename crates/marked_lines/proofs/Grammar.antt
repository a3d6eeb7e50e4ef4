-- The grammar of marked tokens.
use Rattle.std.proofs.Common.{◌≡◌, ℕ, zero, suc, List, [], ◌∷◌, map, length, Option, Some, None, option_map, option_and_then, refl, ap, ◌∙◌}
use Rattle.json.specs.Token.{Token}
use Rattle.json.specs.Json.{Json, array, object, Items, item, Members, member, Parse, parse_map, after_end_array, read_key, items_step, members_step, items, members, value_with, value}
use Rattle.marked_lines.specs.Inner.Marks.{mark_token, mark_json, mark_items, mark_members}

abbrev pub marks : List Token → List Token
marks ts = map mark_token ts

abbrev pub both : {A B : Type 0} → (A → B) → Option (A × List Token) → Option (B × List Token)
both f r = option_map (λ p. (f p.0, marks p.1)) r

abbrev mark_key : Option (List ℕ) → Option (List ℕ)
mark_key k = option_map (λ s. 115 ∷ s) k

after_end-mark : (ts : List Token) → after_end_array (marks ts) ≡ option_map marks (after_end_array ts)
after_end-mark [] = refl
after_end-mark (Token.begin_object ∷ ts) = refl
after_end-mark (Token.end_object ∷ ts) = refl
after_end-mark (Token.begin_array ∷ ts) = refl
after_end-mark (Token.end_array ∷ ts) = refl
after_end-mark (Token.key s ∷ ts) = refl
after_end-mark (Token.string s ∷ ts) = refl
after_end-mark (Token.number s ∷ ts) = refl
after_end-mark (Token.boolean b ∷ ts) = refl
after_end-mark (Token.null ∷ ts) = refl
after_end-mark (Token.bad ∷ ts) = refl

read_key-mark : (ts : List Token) → read_key (marks ts) ≡ both mark_key (read_key ts)
read_key-mark [] = refl
read_key-mark (Token.begin_object ∷ ts) = refl
read_key-mark (Token.end_object ∷ ts) = refl
read_key-mark (Token.begin_array ∷ ts) = refl
read_key-mark (Token.end_array ∷ ts) = refl
read_key-mark (Token.key s ∷ ts) = refl
read_key-mark (Token.string s ∷ ts) = refl
read_key-mark (Token.number s ∷ ts) = refl
read_key-mark (Token.boolean b ∷ ts) = refl
read_key-mark (Token.null ∷ ts) = refl
read_key-mark (Token.bad ∷ ts) = refl

length-marks : (ts : List Token) → length (marks ts) ≡ length ts
length-marks [] = refl
length-marks (t ∷ ts) = ap (λ n. suc n) (length-marks ts)

module _ (p : Parse Json) (pm : (ts : List Token) → p (marks ts) ≡ both mark_json (p ts)) where
  items-mark : (n : ℕ) (ts : List Token) → items p n (marks ts) ≡ both mark_items (items p n ts)
  unfolding items
  items-mark zero ts = refl
  items-mark (suc n) ts = ap (items_step p (items p n) (marks ts)) (after_end-mark ts) ∙ step (λ us. items-mark n us) (after_end_array ts)
    where
      last : (q : Json) (r : Option (Items × List Token)) → parse_map (item (mark_json q)) (both mark_items r) ≡ both mark_items (parse_map (item q) r)
      last q None = refl
      last q (Some r) = refl

      first : ((us : List Token) → items p n (marks us) ≡ both mark_items (items p n us)) → (v : Option (Json × List Token)) → option_and_then (λ q. parse_map (item q.0) (items p n q.1)) (both mark_json v) ≡ both mark_items (option_and_then (λ q. parse_map (item q.0) (items p n q.1)) v)
      first ih None = refl
      first ih (Some q) = ap (parse_map (item (mark_json q.0))) (ih q.1) ∙ last q.0 (items p n q.1)

      step : ((us : List Token) → items p n (marks us) ≡ both mark_items (items p n us)) → (e : Option (List Token)) → items_step p (items p n) (marks ts) (option_map marks e) ≡ both mark_items (items_step p (items p n) ts e)
      step ih (Some r) = refl
      step ih None = ap (option_and_then (λ q. parse_map (item q.0) (items p n q.1))) (pm ts) ∙ first ih (p ts)

  members-mark : (n : ℕ) (ts : List Token) → members p n (marks ts) ≡ both mark_members (members p n ts)
  unfolding members
  members-mark zero ts = refl
  members-mark (suc n) ts = ap (option_and_then (λ q. members_step p (members p n) q.0 q.1)) (read_key-mark ts) ∙ step (λ us. members-mark n us) (read_key ts)
    where
      last : (k : List ℕ) (q : Json) (r : Option (Members × List Token)) → parse_map (member (115 ∷ k) (mark_json q)) (both mark_members r) ≡ both mark_members (parse_map (member k q) r)
      last k q None = refl
      last k q (Some r) = refl

      first : ((us : List Token) → members p n (marks us) ≡ both mark_members (members p n us)) → (k : List ℕ) (v : Option (Json × List Token)) → option_and_then (λ q. parse_map (member (115 ∷ k) q.0) (members p n q.1)) (both mark_json v) ≡ both mark_members (option_and_then (λ q. parse_map (member k q.0) (members p n q.1)) v)
      first ih k None = refl
      first ih k (Some q) = ap (parse_map (member (115 ∷ k) (mark_json q.0))) (ih q.1) ∙ last k q.0 (members p n q.1)

      keyed : ((us : List Token) → members p n (marks us) ≡ both mark_members (members p n us)) → (k : Option (List ℕ)) (rest : List Token) → members_step p (members p n) (mark_key k) (marks rest) ≡ both mark_members (members_step p (members p n) k rest)
      keyed ih None rest = refl
      keyed ih (Some k) rest = ap (option_and_then (λ q. parse_map (member (115 ∷ k) q.0) (members p n q.1))) (pm rest) ∙ first ih k (p rest)

      step : ((us : List Token) → members p n (marks us) ≡ both mark_members (members p n us)) → (e : Option (Option (List ℕ) × List Token)) → option_and_then (λ q. members_step p (members p n) q.0 q.1) (both mark_key e) ≡ both mark_members (option_and_then (λ q. members_step p (members p n) q.0 q.1) e)
      step ih None = refl
      step ih (Some q) = keyed ih q.0 q.1

array-mark : (r : Option (Items × List Token)) → parse_map array (both mark_items r) ≡ both mark_json (parse_map array r)
array-mark None = refl
array-mark (Some r) = refl

object-mark : (r : Option (Members × List Token)) → parse_map object (both mark_members r) ≡ both mark_json (parse_map object r)
object-mark None = refl
object-mark (Some r) = refl

with-mark : (a : Parse Items) (o : Parse Members) → ((ts : List Token) → a (marks ts) ≡ both mark_items (a ts)) → ((ts : List Token) → o (marks ts) ≡ both mark_members (o ts))
    → (ts : List Token) → value_with a o (marks ts) ≡ both mark_json (value_with a o ts)
with-mark a o am om [] = refl
with-mark a o am om (Token.begin_object ∷ ts) = ap (parse_map object) (om ts) ∙ object-mark (o ts)
with-mark a o am om (Token.end_object ∷ ts) = refl
with-mark a o am om (Token.begin_array ∷ ts) = ap (parse_map array) (am ts) ∙ array-mark (a ts)
with-mark a o am om (Token.end_array ∷ ts) = refl
with-mark a o am om (Token.key s ∷ ts) = refl
with-mark a o am om (Token.string s ∷ ts) = refl
with-mark a o am om (Token.number s ∷ ts) = refl
with-mark a o am om (Token.boolean b ∷ ts) = refl
with-mark a o am om (Token.null ∷ ts) = refl
with-mark a o am om (Token.bad ∷ ts) = refl

-- the grammar's value of marked tokens is the marked value
pub value-mark : (depth : ℕ) (ts : List Token) → value depth (marks ts) ≡ both mark_json (value depth ts)
unfolding value
value-mark zero ts = with-mark (λ ts. None) (λ ts. None) (λ ts. refl) (λ ts. refl) ts
value-mark (suc d) ts =
    with-mark (λ ts. items (value d) (length ts) ts) (λ ts. members (value d) (length ts) ts)
    (λ ts. ap (λ n. items (value d) n (marks ts)) (length-marks ts) ∙ items-mark (value d) (value-mark d) (length ts) ts)
    (λ ts. ap (λ n. members (value d) n (marks ts)) (length-marks ts) ∙ members-mark (value d) (value-mark d) (length ts) ts) ts
