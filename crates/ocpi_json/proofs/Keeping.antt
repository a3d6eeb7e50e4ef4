-- Tokens that are kept as their marks and their texts in a row.
use Rattle.std.proofs.Common.{◌≡◌, ℕ, ◌+◌, ◌-◌, ◌<◌, ◌≤◌, Bool, true, false, List, [], ◌∷◌, ◌++◌, map, flat_map, length, take, drop, Option, Some, None, refl, sym, ap, ◌∙◌, subst, arith}
use Rattle.std.specs.Prelude.{⊤, IfSome, IfNone, MatchOption}
use Rattle.std.specs.Borrow.{Bor}
use Rattle.std.specs.Str.{bytes_eq}
use Rattle.std.proofs.Math.Seq.{take-append_seam, drop-append_seam}
use Rattle.std.proofs.lemmas.List.{append_cancel_left, drop-map, append-nil, length-append, length-drop, length-map, map-append, take-append-drop, take-map}
use Rattle.std.proofs.lemmas.Grind.{flat_map-append}
use Rattle.std.proofs.lemmas.Slice.Eq.{bytes_eq-Decides}
use Rattle.json.specs.Json.{Json as Data}
use Rattle.json.specs.Token.{Token}
use Rattle.json.specs.Tree.{json_tokens}
use Rattle.json.specs.Tape.{node_token}
use Rattle.json.specs.declared.tape.Node.{Node}
use Rattle.json.specs.declared.tape.Node.TheVariants as node
use Rattle.ocpi_json.specs.Inner.Begun.{begun, begun-json_tokens}
use Rattle.ocpi_json.specs.Inner.Kept.{kind_of, token_of, mark_of, Spells, kept_tokens, kept_value, Keeps}
use Rattle.ocpi_json.specs.Tokens.{text_of}
use Rattle.ocpi_json.specs.declared.kept_tokens.Kind.{Kind}
use Rattle.ocpi_json.specs.declared.kept_tokens.Mark.{Mark}

-- ---- the tokens of a value on a tape

-- from where a value begins up to where it ends there are its tokens
pub tokens_between : (ns : List Node) (at end : ℕ) (j : Data) (rest : List Token) → at < end → end ≤ length ns
    → drop at (map node_token ns) ≡ json_tokens j ++ rest → rest ≡ drop end (map node_token ns) → map node_token (take (end - at) (drop at ns)) ≡ json_tokens j
tokens_between ns at end j rest later within is left =
    let all = map node_token ns in
    let count : end - at ≡ length (json_tokens j) =
    omega (
      arith,
      later,
      within,
      length-map ns node_token,
      length-drop at all,
      length-drop end all,
      ap length is,
      ap length left,
      length-append (json_tokens j) rest,
    ) in
    sym (take-map node_token (end - at) (drop at ns)) ∙ ap (take (end - at)) (sym (drop-map node_token at ns) ∙ is) ∙ ap (λ n. take n (json_tokens j ++ rest)) count
    ∙ take-append_seam (json_tokens j) rest

-- ---- one token

-- a node's token is known by its kind and its text
known : (n : Node) → token_of (kind_of (node_token n)) (text_of (node_token n)) ≡ node_token n
known (node.Object a) = refl
known node.EndObject = refl
known (node.Array a) = refl
known node.EndArray = refl
known (node.Key s) = refl
known (node.String s) = refl
known (node.Number s) = refl
known (node.Bool true) = refl
known (node.Bool false) = refl
known node.Null = refl

abbrev marked : Kind → ℕ → Mark
marked k n = record { kind = k; len = n }

pub mark_is : (m : Mark) (t : Token) → m.kind ≡ kind_of t → m.len ≡ length (text_of t) → m ≡ mark_of t
mark_is m t kinds lens = ap (λ k. marked k m.len) kinds ∙ ap (λ n. marked (kind_of t) n) lens

abbrev Strips : List ℕ → List ℕ → Option (Bor (List ℕ)) → Type 0
Strips xs p r =
    MatchOption r (bytes_eq (take (length p) xs) p ≡ false) (λ x. (bytes_eq (take (length p) xs) p ≡ true) × (x.now ≡ drop (length p) xs) × (length x.now + length p ≡ length xs))

pub stripped : (m : Mark) (t : Token) (xs p : List ℕ) (r : Option (Bor (List ℕ))) → p ≡ text_of t → m ≡ mark_of t → Strips xs p r
    → IfSome r (λ rest. (m ≡ mark_of t) × (xs ≡ text_of t ++ rest.now))
stripped m t xs p None is same h = tt
stripped m t xs p (Some x) is same h = (
  same,
  sym (take-append-drop (length p) xs) ∙ ap (λ l. l ++ drop (length p) xs) ((bytes_eq-Decides (take (length p) xs) p).0 h.0 ∙ is) ∙ ap (λ l. text_of t ++ l) (sym h.1),
)

abbrev IsTrue : Bool → Type 0
IsTrue true = ⊤
IsTrue false = ⊥

true_or_false : true ≡ false → ⊥
true_or_false e = subst IsTrue e tt

pub not_stripped : (m : Mark) (t : Token) (xs p : List ℕ) (r : Option (Bor (List ℕ))) → p ≡ text_of t → Strips xs p r
    → IfNone r ((rest : List ℕ) → m ≡ mark_of t → xs ≡ text_of t ++ rest → ⊥)
not_stripped m t xs p None is h = λ rest same e.
    let begins : take (length p) xs ≡ p = ap (take (length p)) (e ∙ ap (λ l. l ++ rest) (sym is)) ∙ take-append_seam p rest in
    true_or_false (sym ((bytes_eq-Decides (take (length p) xs) p).1 begins) ∙ h)
not_stripped m t xs p (Some x) is h = tt

-- ---- all of them

pub spells_more : (ms : List Mark) (xs : List ℕ) (ts : List Token) (t : Token) → Spells ms xs ts → Spells (ms ++ mark_of t ∷ []) (xs ++ text_of t) (ts ++ t ∷ [])
spells_more ms xs ts t h = (
  ap (λ l. l ++ mark_of t ∷ []) h.0 ∙ sym (map-append mark_of ts (t ∷ [])),
  ap (λ l. l ++ text_of t) h.1 ∙ ap (λ l. flat_map text_of ts ++ l) (sym (append-nil (text_of t))) ∙ sym (flat_map-append text_of ts (t ∷ [])),
)

pub spells_first : (m : Mark) (ms : List Mark) (xs rest : List ℕ) (t : Token) (ts : List Token) → m ≡ mark_of t → xs ≡ text_of t ++ rest → Spells ms rest ts → Spells (m ∷ ms) xs (t ∷ ts)
spells_first m ms xs rest t ts same is h = (ap (λ k. k ∷ ms) same ∙ ap (λ l. mark_of t ∷ l) h.0, is ∙ ap (λ l. text_of t ++ l) h.1)

abbrev later : List Mark → List Mark
later [] = []
later (m ∷ ms) = ms

abbrev first_or : Mark → List Mark → Mark
first_or d [] = d
first_or d (m ∷ ms) = m

pub spells_later : (m : Mark) (ms : List Mark) (xs rest : List ℕ) (t : Token) (ts : List Token) → xs ≡ text_of t ++ rest → Spells (m ∷ ms) xs (t ∷ ts) → Spells ms rest ts
spells_later m ms xs rest t ts is h = (ap later h.0, append_cancel_left (text_of t) rest (flat_map text_of ts) (sym is ∙ h.1))

pub spells_no_other : (m : Mark) (ms : List Mark) (xs : List ℕ) (t : Token) (ts : List Token) → ((rest : List ℕ) → m ≡ mark_of t → xs ≡ text_of t ++ rest → ⊥)
    → Spells (m ∷ ms) xs (t ∷ ts) → ⊥
spells_no_other m ms xs t ts other h = other (flat_map text_of ts) (ap (first_or m) h.0) h.1

-- ---- the value

-- the tokens of nodes are known by their marks and texts
tokens_kept : (ns : List Node) → kept_tokens (map mark_of (map node_token ns)) (flat_map text_of (map node_token ns)) ≡ map node_token ns
tokens_kept [] = refl
tokens_kept (n ∷ ns) =
    let t = node_token n in
    let texts = flat_map text_of (map node_token ns) in
    ap (λ s. token_of (kind_of t) s ∷ kept_tokens (map mark_of (map node_token ns)) (drop (length (text_of t)) (text_of t ++ texts))) (take-append_seam (text_of t) texts)
    ∙ ap (λ s. token_of (kind_of t) (text_of t) ∷ kept_tokens (map mark_of (map node_token ns)) s) (drop-append_seam (text_of t) texts)
    ∙ ap (λ s. s ∷ kept_tokens (map mark_of (map node_token ns)) texts) (known n) ∙ ap (λ ts. t ∷ ts) (tokens_kept ns)

module _ (ms : List Mark) (xs : List ℕ) (ns : List Node) (spells : Spells ms xs (map node_token ns)) where
  value_begun : kept_value ms xs ≡ begun (map node_token ns)
  unfolding kept_value
  value_begun = ap begun (ap (λ l. kept_tokens l xs) spells.0 ∙ ap (kept_tokens (map mark_of (map node_token ns))) spells.1 ∙ tokens_kept ns)

  module _ (j : Data) (are : map node_token ns ≡ json_tokens j) where
    pub value_kept : kept_value ms xs ≡ j
    value_kept = value_begun ∙ ap begun are ∙ begun-json_tokens j

    pub keeps : Keeps ms xs
    unfolding Keeps
    keeps = subst (λ ts. Spells ms xs ts) (are ∙ ap json_tokens (sym value_kept)) spells

-- the value of kept tokens is that of the nodes if they spell the nodes' tokens
pub same_value : (ms : List Mark) (xs : List ℕ) (j : Data) → Keeps ms xs → kept_value ms xs ≡ j → Spells ms xs (json_tokens j)
unfolding Keeps
same_value ms xs j keeps e = subst (λ k. Spells ms xs (json_tokens k)) e keeps

pub marks_count : (ms : List Mark) (xs : List ℕ) → Keeps ms xs → length ms ≡ length (json_tokens (kept_value ms xs))
unfolding Keeps
marks_count ms xs h = ap length h.0 ∙ length-map (json_tokens (kept_value ms xs)) mark_of

pub texts_count : (ms : List Mark) (xs : List ℕ) → Keeps ms xs → length xs ≡ length (flat_map text_of (json_tokens (kept_value ms xs)))
unfolding Keeps
texts_count ms xs h = ap length h.1
