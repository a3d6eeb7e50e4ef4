-- What a node tells of the value that begins at it.
use Rattle.std.proofs.Common.{◌≡◌, ℕ, ◌+◌, ◌<◌, List, ◌∷◌, map, length, drop, get_or, Option, Some, None, refl, sym, ap, ◌∙◌, arith}
use Rattle.std.proofs.Common as common
use Rattle.std.proofs.lemmas.List.{drop_more, get_or-map, length-map}
use Rattle.std.specs.Borrow.{Bor}
use Rattle.json.specs.Token.{Token}
use Rattle.json.specs.Json.{Json, null, boolean, number, string, array, object, Items, Members, parse_map, after_end_array, value}
use Rattle.json.specs.Tape.{node_token, Passes}
use Rattle.json.specs.Find.{BeginsWith, later_or, get, as_array, as_object, is_null, as_str, as_number, as_bool}
use Rattle.json.specs.declared.tape.Node.{Node}
use Rattle.json.specs.declared.tape.Node.TheVariants.{Object, EndObject, Array, EndArray, Key, String, Number, Bool, Null}
use Rattle.json.proofs.Grammar.{value_is, left_some}
use Rattle.json.proofs.Found.{one_reading, not_found, Some_inj, IsKey}

pub here : (ns : List Node) (i : ℕ) (d : Node) → i < length ns → drop i (map node_token ns) ≡ node_token (get_or ns i d) ∷ drop (i + 1) (map node_token ns)
here ns i d h =
    drop_more (map node_token ns) i (node_token d) (omega (arith, length-map ns node_token)) ∙ ap (λ t. t ∷ drop (i + 1) (map node_token ns)) (get_or-map node_token ns i d (node_token d) h)

abbrev Shape : Node → List Token → Json → List Token → Type 0
Shape (Object a) ts j rest = (ms : Members) × (j ≡ object ms)
Shape EndObject ts j rest = ⊥
Shape (Array a) ts j rest = (js : Items) × (j ≡ array js)
Shape EndArray ts j rest = ⊥
Shape (Key s) ts j rest = ⊥
Shape (String s) ts j rest = (j ≡ string s.now) × (rest ≡ ts)
Shape (Number s) ts j rest = (j ≡ number s.now) × (rest ≡ ts)
Shape (Bool b) ts j rest = (j ≡ boolean b) × (rest ≡ ts)
Shape Null ts j rest = (j ≡ null) × (rest ≡ ts)

made : {A : Type 0} (f : A → Json) (o : Option (A × List Token)) (j : Json) (rest : List Token) → parse_map f o ≡ Some (j, rest) → (a : A) × (j ≡ f a)
made f None j rest e = not_found (j, rest) e
made f (Some x) j rest e = (x.0, sym (ap (λ z. z.0) (Some_inj _ _ e)))

alone : (k j : Json) (ts rest : List Token) → ◌≡◌ {A = Option (Json × List Token)} (Some (k, ts)) (Some (j, rest)) → (j ≡ k) × (rest ≡ ts)
alone k j ts rest e = let both = Some_inj _ _ e in (sym (ap (λ z. z.0) both), sym (ap (λ z. z.1) both))

shape : (n : Node) (ts : List Token) (j : Json) (d : ℕ) (rest : List Token) → value d (node_token n ∷ ts) ≡ Some (j, rest) → Shape n ts j rest
shape (Object a) ts j d rest e = made object _ j rest (sym (value_is d _) ∙ e)
shape EndObject ts j d rest e = not_found (j, rest) (sym (value_is d _) ∙ e)
shape (Array a) ts j d rest e = made array _ j rest (sym (value_is d _) ∙ e)
shape EndArray ts j d rest e = not_found (j, rest) (sym (value_is d _) ∙ e)
shape (Key s) ts j d rest e = not_found (j, rest) (sym (value_is d _) ∙ e)
shape (String s) ts j d rest e = alone (string s.now) j ts rest (sym (value_is d _) ∙ e)
shape (Number s) ts j d rest e = alone (number s.now) j ts rest (sym (value_is d _) ∙ e)
shape (Bool b) ts j d rest e = alone (boolean b) j ts rest (sym (value_is d _) ∙ e)
shape Null ts j d rest e = alone null j ts rest (sym (value_is d _) ∙ e)

pub one_token : (n : Node) (ts : List Token) (j : Json) (d : ℕ) (rest : List Token) → ((a : ℕ) → n ≡ Object a → ⊥) → ((a : ℕ) → n ≡ Array a → ⊥) → value d (node_token n ∷ ts) ≡ Some (j, rest) → rest ≡ ts
one_token (Object a) ts j d rest p q e = absurd (p a refl)
one_token EndObject ts j d rest p q e = absurd (shape EndObject ts j d rest e)
one_token (Array a) ts j d rest p q e = absurd (q a refl)
one_token EndArray ts j d rest p q e = absurd (shape EndArray ts j d rest e)
one_token (Key s) ts j d rest p q e = absurd (shape (Key s) ts j d rest e)
one_token (String s) ts j d rest p q e = (shape (String s) ts j d rest e).1
one_token (Number s) ts j d rest p q e = (shape (Number s) ts j d rest e).1
one_token (Bool b) ts j d rest p q e = (shape (Bool b) ts j d rest e).1
one_token Null ts j d rest p q e = (shape Null ts j d rest e).1

pub by_link : (all : List Token) (i end d : ℕ) (j : Json) (rest : List Token) → Passes all i end → value d (drop i all) ≡ Some (j, rest) → rest ≡ drop end all
by_link all i end d j rest link e =
    let other = left_some (value link.0 (drop i all)) (drop end all) link.1 in
    ap (λ z. z.1) (Some_inj _ _ (one_reading d link.0 (drop i all) _ _ e other.1))

pub no_close : (n : Node) (ts : List Token) → (n ≡ EndArray → ⊥) → after_end_array (node_token n ∷ ts) ≡ None
no_close (Object a) ts never = refl
no_close EndObject ts never = refl
no_close (Array a) ts never = refl
no_close EndArray ts never = absurd (never refl)
no_close (Key s) ts never = refl
no_close (String s) ts never = refl
no_close (Number s) ts never = refl
no_close (Bool b) ts never = refl
no_close Null ts never = refl

pub no_key : (n : Node) → ((s : Bor (List ℕ)) → n ≡ Key s → ⊥) → IsKey (node_token n) → ⊥
no_key (Object a) never h = h
no_key EndObject never h = h
no_key (Array a) never h = h
no_key EndArray never h = h
no_key (Key s) never h = never s refl
no_key (String s) never h = h
no_key (Number s) never h = h
no_key (Bool b) never h = h
no_key Null never h = h

pub as_str_here : (x : Bor (List ℕ)) (ts : List Token) (j : Json) → BeginsWith (node_token (String x) ∷ ts) j → Some x.now ≡ as_str j
as_str_here x ts j h = ap as_str (sym (shape (String x) ts j h.0 h.1 h.2).0)

pub as_str_elsewhere : (n : Node) (ts : List Token) (j : Json) → ((x : Bor (List ℕ)) → n ≡ String x → ⊥) → BeginsWith (node_token n ∷ ts) j → None ≡ as_str j
as_str_elsewhere (Object a) ts j never h = ap as_str (sym (shape (Object a) ts j h.0 h.1 h.2).1)
as_str_elsewhere EndObject ts j never h = absurd (shape EndObject ts j h.0 h.1 h.2)
as_str_elsewhere (Array a) ts j never h = ap as_str (sym (shape (Array a) ts j h.0 h.1 h.2).1)
as_str_elsewhere EndArray ts j never h = absurd (shape EndArray ts j h.0 h.1 h.2)
as_str_elsewhere (Key s) ts j never h = absurd (shape (Key s) ts j h.0 h.1 h.2)
as_str_elsewhere (String s) ts j never h = absurd (never s refl)
as_str_elsewhere (Number s) ts j never h = ap as_str (sym (shape (Number s) ts j h.0 h.1 h.2).0)
as_str_elsewhere (Bool b) ts j never h = ap as_str (sym (shape (Bool b) ts j h.0 h.1 h.2).0)
as_str_elsewhere Null ts j never h = ap as_str (sym (shape Null ts j h.0 h.1 h.2).0)

pub as_number_here : (x : Bor (List ℕ)) (ts : List Token) (j : Json) → BeginsWith (node_token (Number x) ∷ ts) j → Some x.now ≡ as_number j
as_number_here x ts j h = ap as_number (sym (shape (Number x) ts j h.0 h.1 h.2).0)

pub as_number_elsewhere : (n : Node) (ts : List Token) (j : Json) → ((x : Bor (List ℕ)) → n ≡ Number x → ⊥) → BeginsWith (node_token n ∷ ts) j → None ≡ as_number j
as_number_elsewhere (Object a) ts j never h = ap as_number (sym (shape (Object a) ts j h.0 h.1 h.2).1)
as_number_elsewhere EndObject ts j never h = absurd (shape EndObject ts j h.0 h.1 h.2)
as_number_elsewhere (Array a) ts j never h = ap as_number (sym (shape (Array a) ts j h.0 h.1 h.2).1)
as_number_elsewhere EndArray ts j never h = absurd (shape EndArray ts j h.0 h.1 h.2)
as_number_elsewhere (Key s) ts j never h = absurd (shape (Key s) ts j h.0 h.1 h.2)
as_number_elsewhere (String s) ts j never h = ap as_number (sym (shape (String s) ts j h.0 h.1 h.2).0)
as_number_elsewhere (Number s) ts j never h = absurd (never s refl)
as_number_elsewhere (Bool b) ts j never h = ap as_number (sym (shape (Bool b) ts j h.0 h.1 h.2).0)
as_number_elsewhere Null ts j never h = ap as_number (sym (shape Null ts j h.0 h.1 h.2).0)

pub as_bool_here : (x : common.Bool) (ts : List Token) (j : Json) → BeginsWith (node_token (Bool x) ∷ ts) j → Some x ≡ as_bool j
as_bool_here x ts j h = ap as_bool (sym (shape (Bool x) ts j h.0 h.1 h.2).0)

pub as_bool_elsewhere : (n : Node) (ts : List Token) (j : Json) → ((x : common.Bool) → n ≡ Bool x → ⊥) → BeginsWith (node_token n ∷ ts) j → None ≡ as_bool j
as_bool_elsewhere (Object a) ts j never h = ap as_bool (sym (shape (Object a) ts j h.0 h.1 h.2).1)
as_bool_elsewhere EndObject ts j never h = absurd (shape EndObject ts j h.0 h.1 h.2)
as_bool_elsewhere (Array a) ts j never h = ap as_bool (sym (shape (Array a) ts j h.0 h.1 h.2).1)
as_bool_elsewhere EndArray ts j never h = absurd (shape EndArray ts j h.0 h.1 h.2)
as_bool_elsewhere (Key s) ts j never h = absurd (shape (Key s) ts j h.0 h.1 h.2)
as_bool_elsewhere (String s) ts j never h = ap as_bool (sym (shape (String s) ts j h.0 h.1 h.2).0)
as_bool_elsewhere (Number s) ts j never h = ap as_bool (sym (shape (Number s) ts j h.0 h.1 h.2).0)
as_bool_elsewhere (Bool b) ts j never h = absurd (never b refl)
as_bool_elsewhere Null ts j never h = ap as_bool (sym (shape Null ts j h.0 h.1 h.2).0)

pub no_object : (n : Node) (ts : List Token) (j : Json) → ((a : ℕ) → n ≡ Object a → ⊥) → BeginsWith (node_token n ∷ ts) j → as_object j ≡ None
no_object (Object a) ts j never h = absurd (never a refl)
no_object EndObject ts j never h = absurd (shape EndObject ts j h.0 h.1 h.2)
no_object (Array a) ts j never h = ap (as_object) (shape (Array a) ts j h.0 h.1 h.2).1
no_object EndArray ts j never h = absurd (shape EndArray ts j h.0 h.1 h.2)
no_object (Key s) ts j never h = absurd (shape (Key s) ts j h.0 h.1 h.2)
no_object (String s) ts j never h = ap (as_object) (shape (String s) ts j h.0 h.1 h.2).0
no_object (Number s) ts j never h = ap (as_object) (shape (Number s) ts j h.0 h.1 h.2).0
no_object (Bool b) ts j never h = ap (as_object) (shape (Bool b) ts j h.0 h.1 h.2).0
no_object Null ts j never h = ap (as_object) (shape Null ts j h.0 h.1 h.2).0

pub no_array : (n : Node) (ts : List Token) (j : Json) → ((a : ℕ) → n ≡ Array a → ⊥) → BeginsWith (node_token n ∷ ts) j → as_array j ≡ None
no_array (Object a) ts j never h = ap (as_array) (shape (Object a) ts j h.0 h.1 h.2).1
no_array EndObject ts j never h = absurd (shape EndObject ts j h.0 h.1 h.2)
no_array (Array a) ts j never h = absurd (never a refl)
no_array EndArray ts j never h = absurd (shape EndArray ts j h.0 h.1 h.2)
no_array (Key s) ts j never h = absurd (shape (Key s) ts j h.0 h.1 h.2)
no_array (String s) ts j never h = ap (as_array) (shape (String s) ts j h.0 h.1 h.2).0
no_array (Number s) ts j never h = ap (as_array) (shape (Number s) ts j h.0 h.1 h.2).0
no_array (Bool b) ts j never h = ap (as_array) (shape (Bool b) ts j h.0 h.1 h.2).0
no_array Null ts j never h = ap (as_array) (shape Null ts j h.0 h.1 h.2).0

pub an_object : (a : ℕ) (ts : List Token) (j : Json) → BeginsWith (node_token (Object a) ∷ ts) j → (ms : Members) × (j ≡ object ms)
an_object a ts j h = shape (Object a) ts j h.0 h.1 h.2

pub an_array : (a : ℕ) (ts : List Token) (j : Json) → BeginsWith (node_token (Array a) ∷ ts) j → (js : Items) × (j ≡ array js)
an_array a ts j h = shape (Array a) ts j h.0 h.1 h.2

abbrev pub is_null_node : Node → common.Bool
is_null_node (Object a) = common.false
is_null_node EndObject = common.false
is_null_node (Array a) = common.false
is_null_node EndArray = common.false
is_null_node (Key s) = common.false
is_null_node (String s) = common.false
is_null_node (Number s) = common.false
is_null_node (Bool b) = common.false
is_null_node Null = common.true

pub null_here : (n : Node) (ts : List Token) (j : Json) → BeginsWith (node_token n ∷ ts) j → is_null_node n ≡ is_null j
null_here (Object a) ts j h = ap is_null (sym (shape (Object a) ts j h.0 h.1 h.2).1)
null_here EndObject ts j h = absurd (shape EndObject ts j h.0 h.1 h.2)
null_here (Array a) ts j h = ap is_null (sym (shape (Array a) ts j h.0 h.1 h.2).1)
null_here EndArray ts j h = absurd (shape EndArray ts j h.0 h.1 h.2)
null_here (Key s) ts j h = absurd (shape (Key s) ts j h.0 h.1 h.2)
null_here (String s) ts j h = ap is_null (sym (shape (String s) ts j h.0 h.1 h.2).0)
null_here (Number s) ts j h = ap is_null (sym (shape (Number s) ts j h.0 h.1 h.2).0)
null_here (Bool b) ts j h = ap is_null (sym (shape (Bool b) ts j h.0 h.1 h.2).0)
null_here Null ts j h = ap is_null (sym (shape Null ts j h.0 h.1 h.2).0)

pub other_node : (n : Node) → (n ≡ Null → ⊥) → common.false ≡ is_null_node n
other_node (Object a) never = refl
other_node EndObject never = refl
other_node (Array a) never = refl
other_node EndArray never = refl
other_node (Key s) never = refl
other_node (String s) never = refl
other_node (Number s) never = refl
other_node (Bool b) never = refl
other_node Null never = absurd (never refl)

pub get_nothing : (name : List ℕ) (j : Json) → as_object j ≡ None → get name j ≡ None
get_nothing name null e = refl
get_nothing name (boolean b) e = refl
get_nothing name (number s) e = refl
get_nothing name (string s) e = refl
get_nothing name (array js) e = refl
get_nothing name (object ms) e = not_found ms (sym e)

pub or_none : (o : Option Json) → o ≡ later_or o None
or_none None = refl
or_none (Some j) = refl

-- a later member of that name counts, whatever was found before
pub newer : (o : Option Json) (j : Json) (p : Option Json) → later_or (later_or o (Some j)) p ≡ later_or o (Some j)
newer None j p = refl
newer (Some k) j p = refl
