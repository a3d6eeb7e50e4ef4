-- A value takes no bad token.
use Rattle.std.proofs.Common.{◌≡◌, ℕ, zero, suc, List, [], ◌∷◌, length, Bool, true, false, Option, Some, None, option_and_then, refl, ◌∙◌}
use Rattle.json.specs.Token.{Token}
use Rattle.json.specs.Json.{Json, array, object, Items, item, Members, member, Parse, parse_map, after_end_array, read_key, items_step, members_step, items, members, value_with, value}

abbrev pub clean : List Token → Bool
clean [] = true
clean (Token.begin_object ∷ ts) = clean ts
clean (Token.end_object ∷ ts) = clean ts
clean (Token.begin_array ∷ ts) = clean ts
clean (Token.end_array ∷ ts) = clean ts
clean (Token.key s ∷ ts) = clean ts
clean (Token.string s ∷ ts) = clean ts
clean (Token.number s ∷ ts) = clean ts
clean (Token.boolean b ∷ ts) = clean ts
clean (Token.null ∷ ts) = clean ts
clean (Token.bad ∷ ts) = false

-- what is left is as clean as the whole
abbrev pub Left : {A : Type 0} → List Token → Option (A × List Token) → Type 0
Left ts None = Unit {0}
Left ts (Some p) = clean ts ≡ clean p.1

abbrev LeftEnd : List Token → Option (List Token) → Type 0
LeftEnd ts None = Unit {0}
LeftEnd ts (Some r) = clean ts ≡ clean r

after_end-left : (ts : List Token) → LeftEnd ts (after_end_array ts)
after_end-left [] = tt
after_end-left (Token.begin_object ∷ ts) = tt
after_end-left (Token.end_object ∷ ts) = tt
after_end-left (Token.begin_array ∷ ts) = tt
after_end-left (Token.end_array ∷ ts) = refl
after_end-left (Token.key s ∷ ts) = tt
after_end-left (Token.string s ∷ ts) = tt
after_end-left (Token.number s ∷ ts) = tt
after_end-left (Token.boolean b ∷ ts) = tt
after_end-left (Token.null ∷ ts) = tt
after_end-left (Token.bad ∷ ts) = tt

read_key-left : (ts : List Token) → Left ts (read_key ts)
read_key-left [] = tt
read_key-left (Token.begin_object ∷ ts) = tt
read_key-left (Token.end_object ∷ ts) = refl
read_key-left (Token.begin_array ∷ ts) = tt
read_key-left (Token.end_array ∷ ts) = tt
read_key-left (Token.key s ∷ ts) = refl
read_key-left (Token.string s ∷ ts) = tt
read_key-left (Token.number s ∷ ts) = tt
read_key-left (Token.boolean b ∷ ts) = tt
read_key-left (Token.null ∷ ts) = tt
read_key-left (Token.bad ∷ ts) = tt

mapped : {A B : Type 0} (f : A → B) (ts us : List Token) (r : Option (A × List Token)) → clean ts ≡ clean us → Left us r → Left ts (parse_map f r)
mapped f ts us None e h = tt
mapped f ts us (Some p) e h = e ∙ h

module _ (p : Parse Json) (pl : (ts : List Token) → Left ts (p ts)) where
  items-left : (n : ℕ) (ts : List Token) → Left ts (items p n ts)
  unfolding items
  items-left zero ts = tt
  items-left (suc n) ts = step (λ us. items-left n us) (after_end_array ts) (after_end-left ts)
    where
      first : ((us : List Token) → Left us (items p n us)) → (v : Option (Json × List Token)) → Left ts v → Left ts (option_and_then (λ q. parse_map (item q.0) (items p n q.1)) v)
      first ih None h = tt
      first ih (Some q) h = mapped (item q.0) ts q.1 (items p n q.1) h (ih q.1)

      step : ((us : List Token) → Left us (items p n us)) → (e : Option (List Token)) → LeftEnd ts e → Left ts (items_step p (items p n) ts e)
      step ih (Some r) h = h
      step ih None h = first ih (p ts) (pl ts)

  members-left : (n : ℕ) (ts : List Token) → Left ts (members p n ts)
  unfolding members
  members-left zero ts = tt
  members-left (suc n) ts = step (λ us. members-left n us) (read_key ts) (read_key-left ts)
    where
      first : ((us : List Token) → Left us (members p n us)) → (k : List ℕ) (us : List Token) → clean ts ≡ clean us → (v : Option (Json × List Token)) → Left us v → Left ts (option_and_then (λ q. parse_map (member k q.0) (members p n q.1)) v)
      first ih k us e None h = tt
      first ih k us e (Some q) h = mapped (member k q.0) ts q.1 (members p n q.1) (e ∙ h) (ih q.1)

      keyed : ((us : List Token) → Left us (members p n us)) → (k : Option (List ℕ)) (us : List Token) → clean ts ≡ clean us → Left ts (members_step p (members p n) k us)
      keyed ih None us e = e
      keyed ih (Some k) us e = first ih k us e (p us) (pl us)

      step : ((us : List Token) → Left us (members p n us)) → (e : Option (Option (List ℕ) × List Token)) → Left ts e → Left ts (option_and_then (λ q. members_step p (members p n) q.0 q.1) e)
      step ih None h = tt
      step ih (Some q) h = keyed ih q.0 q.1 h

with-left : (a : Parse Items) (o : Parse Members) → ((ts : List Token) → Left ts (a ts)) → ((ts : List Token) → Left ts (o ts)) → (ts : List Token) → Left ts (value_with a o ts)
with-left a o al ol [] = tt
with-left a o al ol (Token.begin_object ∷ ts) = mapped object (Token.begin_object ∷ ts) ts (o ts) refl (ol ts)
with-left a o al ol (Token.end_object ∷ ts) = tt
with-left a o al ol (Token.begin_array ∷ ts) = mapped array (Token.begin_array ∷ ts) ts (a ts) refl (al ts)
with-left a o al ol (Token.end_array ∷ ts) = tt
with-left a o al ol (Token.key s ∷ ts) = tt
with-left a o al ol (Token.string s ∷ ts) = refl
with-left a o al ol (Token.number s ∷ ts) = refl
with-left a o al ol (Token.boolean b ∷ ts) = refl
with-left a o al ol (Token.null ∷ ts) = refl
with-left a o al ol (Token.bad ∷ ts) = tt

pub value-left : (depth : ℕ) (ts : List Token) → Left ts (value depth ts)
unfolding value
value-left zero ts = with-left (λ ts. None) (λ ts. None) (λ ts. tt) (λ ts. tt) ts
value-left (suc d) ts =
    with-left (λ ts. items (value d) (length ts) ts) (λ ts. members (value d) (length ts) ts) (λ ts. items-left (value d) (value-left d) (length ts) ts) (λ ts. members-left (value d) (value-left d) (length ts) ts) ts
