-- What the tokens of a line's tape begin with.
use Rattle.std.proofs.Common.{◌≡◌, ℕ, zero, suc, ◌^◌, ◌<◌, ◌≤◌, Bool, true, false, cond, List, [], ◌∷◌, ◌++◌, length, Option, Some, None, option_map, option_and_then, refl, sym, ap, ◌∙◌, subst, append_assoc, length-append, arith}
use Rattle.std.specs.Prelude.{⊤, unwrap_or, is_some, MatchOption}
use Rattle.std.specs.Str.{bytes_eq}
use Rattle.json.specs.Token.{Token}
use Rattle.json.specs.Json.{Json as Data, null, boolean, number, string, array, object, Items, no_items, item, Members, no_members, member, after_end_array, read_key, members_step, members, value}
use Rattle.json.specs.Find.{BeginsWith, HasValue, InItems, InMembers, NextItem, NextMember, Finds, later_or, get_member, get, as_array, as_object}
use Rattle.json.specs.Tree.{json_tokens, items_tokens, members_tokens}
use Rattle.json.proofs.Unique.Spelling.{value-json_tokens_back}
use Rattle.json.proofs.Grammar.{closed_array, read_key_is}
use Rattle.json.proofs.Found.{items_close, items_go_on, members_go_on, not_found, Some_inj}
use Rattle.ocpi_json.specs.Inner.Begun.{begun, begun-before, listed, named, HasItems, Placed, Listed, Named}
use Rattle.ocpi_json.specs.Fields.{items_list, as_items, members_list, as_members}

pub begun-is : (ts : List Token) (j : Data) → BeginsWith ts j → begun ts ≡ j
begun-is ts j h = ap begun (value-json_tokens_back h.0 ts h.1 j h.2) ∙ begun-before j h.1

-- the tokens begin with what is begun there
pub has_begun : (ts : List Token) → HasValue ts → BeginsWith ts (begun ts)
has_begun ts h = subst (BeginsWith ts) (sym (begun-is ts h.0 h.1)) h.1

pub placed : (ts : List Token) → HasValue ts → length ts < 2 ^ 64 → Placed ts
placed ts h few = record {
  has = h;
  few = omega (
    arith,
    few,
    ap length (value-json_tokens_back h.1.0 ts h.1.1 h.0 h.1.2),
    length-append (json_tokens h.0) h.1.1,
    ap (λ j. length (json_tokens j)) (begun-is ts h.0 h.1),
  );
}

-- ---- a member has no more tokens than its object

abbrev Few : ℕ → Option Data → Type 0
Few most None = ⊤
Few most (Some j) = length (json_tokens j) ≤ most

Few-more : (n m : ℕ) (o : Option Data) → n ≤ m → Few n o → Few m o
Few-more n m None h k = tt
Few-more n m (Some j) h k = omega arith

Few-later : (n : ℕ) (o p : Option Data) → Few n o → Few n p → Few n (later_or o p)
Few-later n None p h k = k
Few-later n (Some j) p h k = h

Few-cond : (n : ℕ) (b : Bool) (j : Data) → length (json_tokens j) ≤ n → Few n (cond b (Some j) None)
Few-cond n true j h = h
Few-cond n false j h = tt

Few-member : (name : List ℕ) (ms : Members) → Few (length (members_tokens ms)) (get_member name ms)
Few-member name no_members = tt
Few-member name (member k j ms) =
    let all = length (members_tokens (member k j ms)) in
    let both = length-append (json_tokens j) (members_tokens ms) in
    Few-later all (get_member name ms) (cond (bytes_eq k name) (Some j) None)
    (Few-more (length (members_tokens ms)) all (get_member name ms) (omega (arith, both)) (Few-member name ms))
    (Few-cond all (bytes_eq k name) j (omega (arith, both)))

Few-get : (name : List ℕ) (j : Data) → Few (length (json_tokens j)) (get name j)
Few-get name null = tt
Few-get name (boolean b) = tt
Few-get name (number s) = tt
Few-get name (string s) = tt
Few-get name (array js) = tt
Few-get name (object ms) = Few-more (length (members_tokens ms)) _ (get_member name ms) (omega arith) (Few-member name ms)

-- a member is found where it begins
pub found_at : (ts us : List Token) (name : List ℕ) → Placed ts → ((j : Data) → BeginsWith ts j → Finds (Some us) (get name j))
    → (Some (begun us) ≡ get name (begun ts)) × Placed us
found_at ts us name h finds =
    let f = finds (begun ts) (has_begun ts h.has) in
    let is : begun us ≡ f.0 = begun-is us f.0 f.2 in
    let few : length (json_tokens f.0) ≤ length (json_tokens (begun ts)) = subst (Few (length (json_tokens (begun ts)))) f.1 (Few-get name (begun ts)) in (
      ap (λ j. Some j) is ∙ sym f.1,
      record {
        has = (f.0, f.2);
        few = omega (arith, few, h.few, ap (λ j. length (json_tokens j)) is);
      },
    )

-- a member is missing where none is found
pub missing_at : (ts : List Token) (name : List ℕ) → Placed ts → ((j : Data) → BeginsWith ts j → Finds None (get name j)) → None ≡ get name (begun ts)
missing_at ts name h finds = sym (finds (begun ts) (has_begun ts h.has))

-- what is told of the value that begins here is so of what is begun
pub told : {X : Type 0} (f : Data → X) (ts : List Token) (x : X) → Placed ts → ((j : Data) → BeginsWith ts j → x ≡ f j) → x ≡ f (begun ts)
told f ts x h tells = tells (begun ts) (has_begun ts h.has)

-- ---- the items of an array

abbrev IsItem : Items → Type 0
IsItem no_items = ⊥
IsItem (item j js) = ⊤

abbrev head_or : Data → Items → Data
head_or d no_items = d
head_or d (item j js) = j

abbrev tail : Items → Items
tail no_items = no_items
tail (item j js) = js

abbrev Spelled : List Token → Items → Type 0
Spelled ts js = (rest : List Token) × (ts ≡ items_tokens js ++ rest)

closed : (ts r : List Token) (js : Items) → after_end_array ts ≡ Some r → InItems ts js → Spelled ts js
closed ts r js e h =
    let is = closed_array ts r e in
    let none : js ≡ no_items = items_close r js (subst (λ l. InItems l js) is h) in
    (r, is ∙ ap (λ l. items_tokens l ++ r) (sym none))

goes_on : (ts : List Token) → after_end_array ts ≡ None → InItems ts no_items → ⊥
goes_on ts e h = let f = items_go_on ts no_items e h in subst IsItem (sym f.5) tt

one_more : (j : Data) (js : Items) (ts : List Token) → ((us : List Token) → InItems us js → Spelled us js)
    → after_end_array ts ≡ None → InItems ts (item j js) → Spelled ts (item j js)
one_more j js ts again e h =
    let f = items_go_on ts (item j js) e h in
    let s = again f.2 (subst (InItems f.2) (sym (ap tail f.5)) f.6) in (
      s.0,
      value-json_tokens_back f.0 ts f.2 f.1 f.4 ∙ ap (λ i. json_tokens i ++ f.2) (sym (ap (head_or j) f.5)) ∙ ap (λ l. json_tokens j ++ l) s.1
          ∙ sym (append_assoc (json_tokens j) (items_tokens js) s.0),
    )

spelled_by : (js : Items) (ts : List Token) (o : Option (List Token)) → after_end_array ts ≡ o → InItems ts js → Spelled ts js
spelled_by no_items ts (Some r) e h = closed ts r no_items e h
spelled_by no_items ts None e h = absurd (goes_on ts e h)
spelled_by (item j js) ts (Some r) e h = closed ts r (item j js) e h
spelled_by (item j js) ts None e h = one_more j js ts (λ us k. spelled_by js us (after_end_array us) refl k) e h

array_begun : (ts : List Token) (js : Items) → InItems ts js → begun (Token.begin_array ∷ ts) ≡ array js
array_begun ts js h =
    let s = spelled_by js ts (after_end_array ts) refl h in
    ap (λ l. begun (Token.begin_array ∷ l)) s.1 ∙ begun-before (array js) s.0

pub listed-is : (ts : List Token) (js : Items) → InItems ts js → listed ts ≡ items_list js
listed-is ts js h = ap (λ j. unwrap_or (as_items j) []) (array_begun ts js h)

some_token : (j : Data) → 1 ≤ length (json_tokens j)
some_token null = omega arith
some_token (boolean b) = omega arith
some_token (number s) = omega arith
some_token (string s) = omega arith
some_token (array js) = omega arith
some_token (object ms) = omega arith

few_items : (js : Items) → length (items_list js) ≤ length (items_tokens js)
few_items no_items = omega arith
few_items (item j js) = omega (arith, some_token j, few_items js, length-append (json_tokens j) (items_tokens js))

module _ (ts us : List Token) (place : Placed ts) (opens : (j : Data) → BeginsWith ts j → (js : Items) × (j ≡ array js) × InItems us js) where
  abbrev inside : (js : Items) × (begun ts ≡ array js) × InItems us js
  inside = opens (begun ts) (has_begun ts place.has)

  pub inside-has : HasItems us
  inside-has = (inside.0, inside.2)

  pub inside-listed : Some (listed us) ≡ as_items (begun ts)
  inside-listed = ap (λ ds. Some ds) (listed-is us inside.0 inside.2) ∙ sym (ap as_items inside.1)

  pub inside-few : length (listed us) < 2 ^ 64
  inside-few =
      omega (arith, place.few, few_items inside.0, ap length (listed-is us inside.0 inside.2), ap (λ j. length (json_tokens j)) inside.1)

  pub inside-row : (len : ℕ) → len ≡ length (listed us) → Listed us len
  inside-row len full = record {
    has = inside-has;
    few = omega (arith, place.few, ap (λ j. length (json_tokens j)) (array_begun us inside.0 inside.2 ∙ sym inside.1));
    full = full;
  }

pub no_items_in : (ts : List Token) → Placed ts → ((j : Data) → BeginsWith ts j → as_array j ≡ None) → None ≡ as_items (begun ts)
no_items_in ts place none = sym (ap (option_map items_list) (none (begun ts) (has_begun ts place.has)))

module _ (old us new : List Token) (has : HasItems old) (next : NextItem old (Some us) new) where
  abbrev first : (j : Data) × (rest : Items) × (has.0 ≡ item j rest) × BeginsWith us j × InItems new rest
  first = next has.0 has.1

  pub next-has : HasItems new
  next-has = (first.1, first.4)

  pub next-listed : listed old ≡ begun us ∷ listed new
  next-listed =
      listed-is old has.0 has.1 ∙ ap items_list first.2 ∙ ap (λ j. j ∷ items_list first.1) (sym (begun-is us first.0 first.3))
      ∙ ap (λ ds. begun us ∷ ds) (sym (listed-is new first.1 first.4))

  module _ (few : length (json_tokens (begun (Token.begin_array ∷ old))) < 2 ^ 64) where
    all : length (json_tokens (begun (Token.begin_array ∷ old))) ≡ suc (length (json_tokens first.0 ++ items_tokens first.1))
    all = ap (λ j. length (json_tokens j)) (array_begun old has.0 has.1 ∙ ap array first.2)

    pub next-placed : Placed us
    next-placed = record {
      has = (first.0, first.3);
      few = omega (arith, few, all, length-append (json_tokens first.0) (items_tokens first.1), ap (λ j. length (json_tokens j)) (begun-is us first.0 first.3));
    }

    pub next-row : (len : ℕ) → len ≡ length (listed new) → Listed new len
    next-row len full = record {
      has = next-has;
      few = omega (
        arith,
        few,
        all,
        length-append (json_tokens first.0) (items_tokens first.1),
        some_token first.0,
        ap (λ j. length (json_tokens j)) (array_begun new first.1 first.4),
      );
      full = full;
    }

pub none_left : (ts new : List Token) → HasItems ts → NextItem ts None new → listed ts ≡ []
none_left ts new has next = listed-is ts has.0 has.1 ∙ ap items_list (next has.0 has.1)

-- ---- the members of an object

told_object : {X : Type 0} (tokens : X → List Token) (r : Option X) (j : Data)
    → MatchOption r (as_object j ≡ None) (λ left. (ms : Members) × (j ≡ object ms) × InMembers (tokens left) ms) → is_some r ≡ is_some (as_object j)
told_object tokens None j h = ap is_some (sym h)
told_object tokens (Some left) j h = sym (ap (λ d. is_some (as_object d)) h.1)

pub is_told_object : {X : Type 0} (tokens : X → List Token) (ts : List Token) (r : Option X) → Placed ts
    → ((j : Data) → BeginsWith ts j → MatchOption r (as_object j ≡ None) (λ left. (ms : Members) × (j ≡ object ms) × InMembers (tokens left) ms))
    → is_some r ≡ is_some (as_object (begun ts))
is_told_object tokens ts r place tells = told_object tokens r (begun ts) (tells (begun ts) (has_begun ts place.has))

abbrev IsMember : Members → Type 0
IsMember no_members = ⊥
IsMember (member k j ms) = ⊤

abbrev member_or : Data → Members → Data
member_or d no_members = d
member_or d (member k j ms) = j

abbrev key_or : Members → List ℕ
key_or no_members = []
key_or (member k j ms) = k

abbrev later : Members → Members
later no_members = no_members
later (member k j ms) = ms

abbrev SpelledMembers : List Token → Members → Type 0
SpelledMembers ts ms = (rest : List Token) × (ts ≡ members_tokens ms ++ rest)

-- what the first token says of the members
abbrev Opens : Option (Option (List ℕ) × List Token) → Members → Type 0
Opens None ms = ⊥
Opens (Some (None, s)) ms = ms ≡ no_members
Opens (Some (Some k, s)) ms = ⊤

opens_with : (d n : ℕ) (ts r : List Token) (ms : Members) (o : Option (Option (List ℕ) × List Token)) → read_key ts ≡ o → members (value d) n ts ≡ Some (ms, r) → Opens o ms
unfolding members
opens_with d zero ts r ms o is e = not_found (ms, r) e
opens_with d (suc n) ts r ms None is e =
    not_found (ms, r) (ap (option_and_then (λ p. members_step (value d) (members (value d) n) p.0 p.1)) (sym is) ∙ e)
opens_with d (suc n) ts r ms (Some (None, s)) is e =
    sym (ap (λ z. z.0) (Some_inj _ _ (ap (option_and_then (λ p. members_step (value d) (members (value d) n) p.0 p.1)) (sym is) ∙ e)))
opens_with d (suc n) ts r ms (Some (Some k, s)) is e = tt

all_spelled : (ms : Members) (ts s : List Token) → read_key ts ≡ Some (None, s) → InMembers ts ms → SpelledMembers ts ms
all_spelled ms ts s is h =
    let none : ms ≡ no_members = opens_with h.0 h.1 ts h.2 ms (Some (None, s)) is h.3 in
    (s, read_key_is ts None s is ∙ ap (λ l. members_tokens l ++ s) (sym none))

member_spelled : (k : List ℕ) (j : Data) (ms : Members) (ts : List Token) → ((us : List Token) → InMembers us ms → SpelledMembers us ms)
    → (i : List ℕ) (s : List Token) → read_key ts ≡ Some (Some i, s) → InMembers ts (member k j ms) → SpelledMembers ts (member k j ms)
member_spelled k j ms ts again i s is h =
    let key = read_key_is ts (Some i) s is in
    let f = members_go_on i s (member k j ms) (subst (λ l. InMembers l (member k j ms)) key h) in
    let t = again f.2 (subst (InMembers f.2) (sym (ap later f.5)) f.6) in
    let first : s ≡ json_tokens j ++ (members_tokens ms ++ t.0) =
    value-json_tokens_back f.0 s f.2 f.1 f.4 ∙ ap (λ d. json_tokens d ++ f.2) (sym (ap (member_or j) f.5)) ∙ ap (λ l. json_tokens j ++ l) t.1 in
    (t.0, key ∙ ap (λ n. Token.key n ∷ s) (sym (ap key_or f.5)) ∙ ap (λ l. Token.key k ∷ l) (first ∙ sym (append_assoc (json_tokens j) (members_tokens ms) t.0)))

members_spelled : (ms : Members) (ts : List Token) (o : Option (Option (List ℕ) × List Token)) → read_key ts ≡ o → InMembers ts ms → SpelledMembers ts ms
members_spelled no_members ts None is h = absurd (opens_with h.0 h.1 ts h.2 no_members None is h.3)
members_spelled (member k j ms) ts None is h = absurd (opens_with h.0 h.1 ts h.2 (member k j ms) None is h.3)
members_spelled no_members ts (Some (None, s)) is h = all_spelled no_members ts s is h
members_spelled (member k j ms) ts (Some (None, s)) is h = all_spelled (member k j ms) ts s is h
members_spelled no_members ts (Some (Some i, s)) is h =
    let f = members_go_on i s no_members (subst (λ l. InMembers l no_members) (read_key_is ts (Some i) s is) h) in
    absurd (subst IsMember (sym f.5) tt)
members_spelled (member k j ms) ts (Some (Some i, s)) is h =
    member_spelled k j ms ts (λ us g. members_spelled ms us (read_key us) refl g) i s is h

object_begun : (ts : List Token) (ms : Members) → InMembers ts ms → begun (Token.begin_object ∷ ts) ≡ object ms
object_begun ts ms h =
    let s = members_spelled ms ts (read_key ts) refl h in
    ap (λ l. begun (Token.begin_object ∷ l)) s.1 ∙ begun-before (object ms) s.0

named-is : (ts : List Token) (ms : Members) → InMembers ts ms → named ts ≡ members_list ms
named-is ts ms h = ap (λ j. unwrap_or (as_members j) []) (object_begun ts ms h)

pub no_members_in : (ts : List Token) → Placed ts → ((j : Data) → BeginsWith ts j → as_object j ≡ None) → None ≡ as_members (begun ts)
no_members_in ts place none = sym (ap (option_map members_list) (none (begun ts) (has_begun ts place.has)))

module _ (ts us : List Token) (place : Placed ts) (opens : (j : Data) → BeginsWith ts j → (ms : Members) × (j ≡ object ms) × InMembers us ms) where
  abbrev within : (ms : Members) × (begun ts ≡ object ms) × InMembers us ms
  within = opens (begun ts) (has_begun ts place.has)

  pub within-named : Some (named us) ≡ as_members (begun ts)
  within-named = ap (λ ds. Some ds) (named-is us within.0 within.2) ∙ sym (ap as_members within.1)

  pub within-row : Named us
  within-row = record {
    has = (within.0, within.2);
    few = omega (arith, place.few, ap (λ j. length (json_tokens j)) (object_begun us within.0 within.2 ∙ sym within.1));
  }

module _ (old us new : List Token) (k : List ℕ) (row : Named old) (next : NextMember old (Some (k, us)) new) where
  abbrev front : (j : Data) × (rest : Members) × (row.has.0 ≡ member k j rest) × BeginsWith us j × InMembers new rest
  front = next row.has.0 row.has.1

  pub front-named : named old ≡ (k, begun us) ∷ named new
  front-named =
      named-is old row.has.0 row.has.1 ∙ ap members_list front.2 ∙ ap (λ j. (k, j) ∷ members_list front.1) (sym (begun-is us front.0 front.3))
      ∙ ap (λ ds. (k, begun us) ∷ ds) (sym (named-is new front.1 front.4))

  whole : length (json_tokens (begun (Token.begin_object ∷ old))) ≡ suc (suc (length (json_tokens front.0 ++ members_tokens front.1)))
  whole = ap (λ j. length (json_tokens j)) (object_begun old row.has.0 row.has.1 ∙ ap object front.2)

  pub front-placed : Placed us
  front-placed = record {
    has = (front.0, front.3);
    few = omega (arith, row.few, whole, length-append (json_tokens front.0) (members_tokens front.1), ap (λ j. length (json_tokens j)) (begun-is us front.0 front.3));
  }

  pub front-row : Named new
  front-row = record {
    has = (front.1, front.4);
    few = omega (
      arith,
      row.few,
      whole,
      length-append (json_tokens front.0) (members_tokens front.1),
      ap (λ j. length (json_tokens j)) (object_begun new front.1 front.4),
    );
  }

pub none_named : (ts new : List Token) → Named ts → NextMember ts None new → named ts ≡ []
none_named ts new row next = named-is ts row.has.0 row.has.1 ∙ ap members_list (next row.has.0 row.has.1)
