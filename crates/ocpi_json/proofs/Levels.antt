-- A value nests as deep as brackets are open along its tokens.
use Rattle.std.proofs.Common.{◌≡◌, ℕ, ◌+◌, ◌-◌, ◌*◌, ◌<◌, ◌≤◌, Bool, drop, get_or, length, length-append, map, List, [], ◌∷◌, ◌++◌, true, false, Option, Some, None, option_and_then, refl, sym, ap, ◌∙◌, subst, append_assoc, append-nil, arith}
use Rattle.std.specs.Prelude.{◌&&◌, is_some, nat_le}
use Rattle.std.proofs.lemmas.Bool.{and_parts, and_from, leb-true, le-leb, lt-leb, true≢false, false≢true}
use Rattle.std.proofs.lemmas.List.{get_or_default, length-drop}
use Rattle.json.specs.Tape.{node_token, LinkAt, Linked, Passes}
use Rattle.json.specs.Token.{Token}
use Rattle.json.specs.declared.tape.Node.{Node}
use Rattle.json.specs.declared.tape.Node.TheVariants.{Object, EndObject, Array, EndArray, Key, String, Number, Bool as Flag, Null}
use Rattle.json.specs.Lex.{tokens}
use Rattle.json.specs.Json.{Json as Data, null, boolean, number, string, array, object, Items, no_items, item, Members, no_members, member, value, if_last, document}
use Rattle.json.specs.Tree.{json_tokens, items_tokens, members_tokens, depth, items_depth, members_depth}
use Rattle.json.proofs.Found.{Some_inj, not_found}
use Rattle.json.proofs.Grammar.{left_some}
use Rattle.json.proofs.Nesting.{value-depth}
use Rattle.json.proofs.Printed.Trees.{value-json_tokens}
use Rattle.json.proofs.Unique.Spelling.{value-json_tokens_back, tokens-document}
use Rattle.ocpi_json.specs.Inner.Begun.{begun, begun-json_tokens}
use Rattle.ocpi_json.specs.Inner.Levels.{level, link_of, stays_within}
use Rattle.ocpi_json.specs.Reading.{max_depth, value_of}

-- ---- what stays within is no deeper

abbrev Fits : ℕ → ℕ → ℕ → List Token → Type 0
Fits deep more after rest = (deep + more ≤ max_depth) × (stays_within after rest ≡ true)

behind_leaf : (deep : ℕ) (rest : List Token) → nat_le deep max_depth && stays_within deep rest ≡ true → Fits deep 0 deep rest
behind_leaf deep rest e =
    let p = and_parts (nat_le deep max_depth) (stays_within deep rest) e in
    (omega (arith, leb-true deep max_depth p.0), p.1)

behind_end : (deep : ℕ) (rest : List Token) → deep + 1 ≤ max_depth → nat_le (deep + 1 - 1) max_depth && stays_within (deep + 1 - 1) rest ≡ true → Fits (deep + 1) 0 deep rest
behind_end deep rest h e =
    let same : deep + 1 - 1 ≡ deep = omega arith in
    let p = and_parts (nat_le (deep + 1 - 1) max_depth) (stays_within (deep + 1 - 1) rest) e in
    (omega (arith, h), subst (λ n. stays_within n rest ≡ true) same p.1)

mutual
  no_deeper : (j : Data) (deep : ℕ) (rest : List Token) → stays_within deep (json_tokens j ++ rest) ≡ true → Fits deep (depth j) deep rest
  no_deeper null deep rest e = behind_leaf deep rest e
  no_deeper (boolean b) deep rest e = behind_leaf deep rest e
  no_deeper (number s) deep rest e = behind_leaf deep rest e
  no_deeper (string s) deep rest e = behind_leaf deep rest e
  no_deeper (array js) deep rest e =
      let p = and_parts (nat_le (deep + 1) max_depth) (stays_within (deep + 1) (items_tokens js ++ rest)) e in
      let q = items_no_deeper js deep rest (leb-true (deep + 1) max_depth p.0) p.1 in
      (omega (arith, q.0), q.1)
  no_deeper (object ms) deep rest e =
      let p = and_parts (nat_le (deep + 1) max_depth) (stays_within (deep + 1) (members_tokens ms ++ rest)) e in
      let q = members_no_deeper ms deep rest (leb-true (deep + 1) max_depth p.0) p.1 in
      (omega (arith, q.0), q.1)

  items_no_deeper : (js : Items) (deep : ℕ) (rest : List Token) → deep + 1 ≤ max_depth → stays_within (deep + 1) (items_tokens js ++ rest) ≡ true → Fits (deep + 1) (items_depth js) deep rest
  items_no_deeper no_items deep rest h e = behind_end deep rest h e
  items_no_deeper (item j js) deep rest h e =
      let p = no_deeper j (deep + 1) (items_tokens js ++ rest) (ap (stays_within (deep + 1)) (sym (append_assoc (json_tokens j) (items_tokens js) rest)) ∙ e) in
      let q = items_no_deeper js deep rest h p.1 in
      (omega (arith, p.0, q.0), q.1)

  members_no_deeper : (ms : Members) (deep : ℕ) (rest : List Token) → deep + 1 ≤ max_depth → stays_within (deep + 1) (members_tokens ms ++ rest) ≡ true → Fits (deep + 1) (members_depth ms) deep rest
  members_no_deeper no_members deep rest h e = behind_end deep rest h e
  members_no_deeper (member k j ms) deep rest h e =
      let behind = (json_tokens j ++ members_tokens ms) ++ rest in
      let key = and_parts (nat_le (deep + 1) max_depth) (stays_within (deep + 1) behind) e in
      let p = no_deeper j (deep + 1) (members_tokens ms ++ rest) (ap (stays_within (deep + 1)) (sym (append_assoc (json_tokens j) (members_tokens ms) rest)) ∙ key.1) in
      let q = members_no_deeper ms deep rest h p.1 in
      (omega (arith, p.0, q.0), q.1)

-- ---- what is no deeper stays within

leaf_stays : (deep : ℕ) (rest : List Token) → Fits deep 0 deep rest → nat_le deep max_depth && stays_within deep rest ≡ true
leaf_stays deep rest h =
    and_from (nat_le deep max_depth) (stays_within deep rest) (le-leb deep max_depth (omega (arith, h.0))) h.1

end_stays : (deep : ℕ) (rest : List Token) → Fits (deep + 1) 0 deep rest → nat_le (deep + 1 - 1) max_depth && stays_within (deep + 1 - 1) rest ≡ true
end_stays deep rest h =
    let same : deep ≡ deep + 1 - 1 = omega arith in
    and_from (nat_le (deep + 1 - 1) max_depth) (stays_within (deep + 1 - 1) rest) (le-leb (deep + 1 - 1) max_depth (omega (arith, h.0)))
    (subst (λ n. stays_within n rest ≡ true) same h.1)

mutual
  stays : (j : Data) (deep : ℕ) (rest : List Token) → Fits deep (depth j) deep rest → stays_within deep (json_tokens j ++ rest) ≡ true
  stays null deep rest h = leaf_stays deep rest h
  stays (boolean b) deep rest h = leaf_stays deep rest h
  stays (number s) deep rest h = leaf_stays deep rest h
  stays (string s) deep rest h = leaf_stays deep rest h
  stays (array js) deep rest h =
      and_from (nat_le (deep + 1) max_depth) (stays_within (deep + 1) (items_tokens js ++ rest)) (le-leb (deep + 1) max_depth (omega (arith, h.0)))
      (items_stay js deep rest (omega (arith, h.0), h.1))
  stays (object ms) deep rest h =
      and_from (nat_le (deep + 1) max_depth) (stays_within (deep + 1) (members_tokens ms ++ rest)) (le-leb (deep + 1) max_depth (omega (arith, h.0)))
      (members_stay ms deep rest (omega (arith, h.0), h.1))

  items_stay : (js : Items) (deep : ℕ) (rest : List Token) → Fits (deep + 1) (items_depth js) deep rest → stays_within (deep + 1) (items_tokens js ++ rest) ≡ true
  items_stay no_items deep rest h = end_stays deep rest h
  items_stay (item j js) deep rest h =
      ap (stays_within (deep + 1)) (append_assoc (json_tokens j) (items_tokens js) rest)
      ∙ stays j (deep + 1) (items_tokens js ++ rest) (omega (arith, h.0), items_stay js deep rest (omega (arith, h.0), h.1))

  members_stay : (ms : Members) (deep : ℕ) (rest : List Token) → Fits (deep + 1) (members_depth ms) deep rest → stays_within (deep + 1) (members_tokens ms ++ rest) ≡ true
  members_stay no_members deep rest h = end_stays deep rest h
  members_stay (member k j ms) deep rest h =
      and_from (nat_le (deep + 1) max_depth) (stays_within (deep + 1) ((json_tokens j ++ members_tokens ms) ++ rest)) (le-leb (deep + 1) max_depth (omega (arith, h.0)))
      (ap (stays_within (deep + 1)) (append_assoc (json_tokens j) (members_tokens ms) rest)
      ∙ stays j (deep + 1) (members_tokens ms ++ rest) (omega (arith, h.0), members_stay ms deep rest (omega (arith, h.0), h.1)))

-- ---- a value has at most half as many levels as tokens

mutual
  half : (j : Data) → 2 * depth j ≤ length (json_tokens j)
  half null = omega arith
  half (boolean b) = omega arith
  half (number s) = omega arith
  half (string s) = omega arith
  half (array js) = let within = items_half js in omega arith
  half (object ms) = let within = members_half ms in omega arith

  items_half : (js : Items) → 2 * items_depth js + 1 ≤ length (items_tokens js)
  items_half no_items = omega arith
  items_half (item j js) =
      let first = half j in
      let later = items_half js in
      omega (arith, length-append (json_tokens j) (items_tokens js))

  members_half : (ms : Members) → 2 * members_depth ms + 1 ≤ length (members_tokens ms)
  members_half no_members = omega arith
  members_half (member k j ms) =
      let first = half j in
      let later = members_half ms in
      omega (arith, length-append (json_tokens j) (members_tokens ms))

same_bool : (a b : Bool) → (a ≡ true → b ≡ true) → (b ≡ true → a ≡ true) → a ≡ b
same_bool true b f g = sym (f refl)
same_bool false true f g = g refl
same_bool false false f g = refl

-- a value that is not too deep changes nothing
passed : (j : Data) (deep : ℕ) (rest : List Token) → deep + depth j ≤ max_depth → stays_within deep (json_tokens j ++ rest) ≡ stays_within deep rest
passed j deep rest h = same_bool _ _ (λ e. (no_deeper j deep rest e).1) (λ e. stays j deep rest (h, e))

-- a link over few tokens changes nothing
pub few_passed : (all : List Token) (i after deep : ℕ) → deep ≤ max_depth → Passes all i after → after - i ≤ 2 * (max_depth - deep) → stays_within deep (drop i all) ≡ stays_within deep (drop after all)
few_passed all i after deep within link few =
    let skipped = left_some (value link.0 (drop i all)) (drop after all) link.1 in
    let j = skipped.0 in
    let is : drop i all ≡ json_tokens j ++ drop after all = value-json_tokens_back link.0 (drop i all) (drop after all) j skipped.1 in
    let shallow : deep + depth j ≤ max_depth =
    omega (
      arith,
      half j,
      link.2,
      link.3,
      ap length is,
      length-append (json_tokens j) (drop after all),
      length-drop i all,
      length-drop after all,
    ) in
    ap (stays_within deep) is ∙ passed j deep (drop after all) shallow

-- a token that stays within is passed
pub one_within : (deep : ℕ) (t : Token) (ts : List Token) (now : ℕ) → now ≡ level deep t → now ≤ max_depth → stays_within deep (t ∷ ts) ≡ stays_within now ts
one_within deep t ts now is within =
    ap (λ b. b && stays_within (level deep t) ts) (le-leb (level deep t) max_depth (omega (arith, is, within))) ∙ ap (λ n. stays_within n ts) (sym is)

pub one_beyond : (deep : ℕ) (t : Token) (ts : List Token) (now : ℕ) → now ≡ level deep t → max_depth < now → stays_within deep (t ∷ ts) ≡ false
one_beyond deep t ts now is beyond =
    ap (λ b. b && stays_within (level deep t) ts) (lt-leb (level deep t) max_depth (omega (arith, is, beyond)))

-- a node that has a link passes a value by it
pub linked_at : (nodes : List Node) (i after : ℕ) (d : Node) → Linked (map node_token nodes) 0 nodes → i < length nodes → link_of (get_or nodes i d) ≡ Some after → Passes (map node_token nodes) i after
linked_at nodes i after d linked inside has =
    by_node (get_or nodes i Null) (linked i (omega arith) inside) (ap link_of (get_or_default nodes i Null d inside) ∙ has)
  where
    by_node : (n : Node) → LinkAt (map node_token nodes) i n → link_of n ≡ Some after → Passes (map node_token nodes) i after
    by_node (Object a) link e = subst (Passes (map node_token nodes) i) (Some_inj a after e) link
    by_node EndObject link e = not_found after e
    by_node (Array a) link e = subst (Passes (map node_token nodes) i) (Some_inj a after e) link
    by_node EndArray link e = not_found after e
    by_node (Key s) link e = not_found after e
    by_node (String s) link e = not_found after e
    by_node (Number s) link e = not_found after e
    by_node (Flag b) link e = not_found after e
    by_node Null link e = not_found after e

-- ---- a text of the kit's depth, and of ours

some_of : (o : Option Data) → is_some o ≡ true → (j : Data) × (o ≡ Some j)
some_of None e = absurd (false≢true e)
some_of (Some j) e = (j, refl)

last : (o : Option (Data × List Token)) (j : Data) → option_and_then (λ p. if_last p.0 p.1) o ≡ Some j → o ≡ Some (j, [])
last None j e = not_found j e
last (Some (i, [])) j e = ap (λ x. Some (x, [])) (Some_inj i j e)
last (Some (i, t ∷ ts)) j e = not_found j e

-- what is a value at our depth is one at the kit's
deeper : (text : List ℕ) (j : Data) → value_of text ≡ Some j → (tokens text ≡ json_tokens j) × (depth j ≤ max_depth) × (document text ≡ Some j)
deeper text j e =
    let whole = last (value max_depth (tokens text)) j e in
    let is = value-json_tokens_back max_depth (tokens text) [] j whole in
    let within : depth j ≤ max_depth = value-depth max_depth (tokens text) [] j whole in (
      is ∙ append-nil (json_tokens j),
      within,
      ap (λ ts. option_and_then (λ p. if_last p.0 p.1) (value 128 ts)) is ∙ ap (option_and_then (λ p. if_last p.0 p.1)) (value-json_tokens j 128 [] (omega (arith, within))),
    )

pub no_document : (text : List ℕ) → document text ≡ None → value_of text ≡ None
no_document text e = go (value_of text) refl
  where
    go : (o : Option Data) → value_of text ≡ o → value_of text ≡ None
    go None is = is
    go (Some j) is = not_found j (sym e ∙ (deeper text j is).2)

pub too_deep : (text : List ℕ) → stays_within 0 (tokens text) ≡ false → value_of text ≡ None
too_deep text e = go (value_of text) refl
  where
    go : (o : Option Data) → value_of text ≡ o → value_of text ≡ None
    go None is = is
    go (Some j) is =
        let d = deeper text j is in
        let within : stays_within 0 (json_tokens j ++ []) ≡ true = stays j 0 [] (omega (arith, d.1), refl) in
        absurd (true≢false (sym within ∙ ap (stays_within 0) (append-nil (json_tokens j) ∙ sym d.0) ∙ e))

pub value_of-tape : (text : List ℕ) (tape : List Token) → tape ≡ tokens text → is_some (document text) ≡ true → stays_within 0 tape ≡ true → value_of text ≡ Some (begun tape)
value_of-tape text tape same some e =
    let found = some_of (document text) some in
    let j = found.0 in
    let is : tokens text ≡ json_tokens j = tokens-document text j found.1 in
    let own : tape ≡ json_tokens j ++ [] = same ∙ is ∙ sym (append-nil (json_tokens j)) in
    let fits = no_deeper j 0 [] (ap (stays_within 0) (sym own) ∙ e) in
    ap (λ ts. option_and_then (λ p. if_last p.0 p.1) (value max_depth ts)) (is ∙ sym (append-nil (json_tokens j)))
    ∙ ap (option_and_then (λ p. if_last p.0 p.1)) (value-json_tokens j max_depth [] (omega (arith, fits.0)))
    ∙ ap (λ i. Some i) (sym (ap begun (same ∙ is) ∙ begun-json_tokens j))
