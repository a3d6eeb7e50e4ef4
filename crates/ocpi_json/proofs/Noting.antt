-- What a walk over the members of an object notes.
use Rattle.std.proofs.Common.{◌≡◌, ◌≢◌, ◌⊎◌, inl, inr, ℕ, zero, suc, ◌<◌, List, get_or, replicate, map, drop, Bool, true, false, cond, Option, Some, None, refl, sym, ap, ◌∙◌, subst, arith}
use Rattle.std.proofs.lemmas.Slice.Eq.{bytes_eq-Decides}
use Rattle.std.specs.Str.{bytes_eq}
use Rattle.json.specs.Json.{Json as Data, Members, member}
use Rattle.json.specs.Tape.{node_token}
use Rattle.json.specs.Find.{BeginsWith, Finds, later_or, get_member, get}
use Rattle.ocpi_json.specs.Inner.Picked.{noted}
use Rattle.ocpi_json.specs.Inner.Places.{tokens_from}
use Rattle.ocpi_json.specs.Name.{key_text}
use Rattle.ocpi_json.specs.declared.name.Name.{Name}
use Rattle.ocpi_json.specs.declared.place.Place.{Place}
use Rattle.ocpi_json.proofs.NameLemmas.{same_name}
use Rattle.ocpi_json.proofs.Tokens.{or_none, newer}

pub zeros_at : (n k : ℕ) → get_or {A = ℕ} (replicate n 0) k 0 ≡ 0
zeros_at zero k = refl
zeros_at (suc n) zero = refl
zeros_at (suc n) (suc k) = zeros_at n k

pub same_or_other : (i k : ℕ) → (i ≡ k) ⊎ (i ≢ k)
same_or_other zero zero = inl refl
same_or_other zero (suc k) = inr (λ e. omega (arith, e))
same_or_other (suc i) zero = inr (λ e. omega (arith, e))
same_or_other (suc i) (suc k) = step (same_or_other i k)
  where
    step : (i ≡ k) ⊎ (i ≢ k) → (suc i ≡ suc k) ⊎ (suc i ≢ suc k)
    step (inl e) = inl (ap suc e)
    step (inr f) = inr (λ e. f (omega (arith, e)))

-- a key is that of one name only
pub other_name : (k : List ℕ) (a b : Name) → bytes_eq k (key_text a) ≡ true → b ≢ a → bytes_eq k (key_text b) ≡ false
other_name k a b is differs = go (bytes_eq k (key_text b)) refl
  where
    go : (t : Bool) → bytes_eq k (key_text b) ≡ t → t ≡ false
    go false e = refl
    go true e = absurd (differs (same_name b a (sym ((bytes_eq-Decides k (key_text b)).0 e) ∙ (bytes_eq-Decides k (key_text a)).0 is)))

-- a place on the tape of an object is found again by its number
pub noted_at : (p q : Place) (j : Data) → q.nodes ≡ p.nodes → 0 < q.at → BeginsWith (tokens_from q) j → Finds (noted p q.at) (Some j)
noted_at p q j same within h = go q.at refl within
  where
    go : (n : ℕ) → q.at ≡ n → 0 < n → Finds (noted p n) (Some j)
    go zero e lt = absurd (omega (arith, lt))
    go (suc n) e lt =
        (j, refl, subst (λ i. BeginsWith (drop i (map node_token p.nodes.now)) j) e (subst (λ nodes. BeginsWith (drop q.at (map node_token nodes.now)) j) same h))

-- what is noted so far of a name is the last member of it that was passed, where so many members are left
abbrev pub SoFar : Place → ℕ → List ℕ → Data → Members → Type 0
SoFar p at name j left = (earlier : Option Data) × Finds (noted p at) earlier × (get name j ≡ later_or (get_member name left) earlier)

-- the next member has the name
pub noted_next : (p q : Place) (at : ℕ) (name : List ℕ) (j : Data) (left : Members) (k : List ℕ) (next : Data) (rest : Members) → left ≡ member k next rest
    → bytes_eq k name ≡ true → Finds (noted p q.at) (Some next) → SoFar p at name j left → SoFar p q.at name j rest
noted_next p q at name j left k next rest is same found now =
    let turn = now.2 ∙ ap (λ ms. later_or (get_member name ms) now.0) is in
    let pick = λ (b : Bool). later_or (later_or (get_member name rest) (cond b (Some next) None)) now.0 in
    (Some next, found, turn ∙ ap pick same ∙ newer (get_member name rest) next now.0)

-- the next member has another name
pub passed_over : (p : Place) (at : ℕ) (name : List ℕ) (j : Data) (left : Members) (k : List ℕ) (next : Data) (rest : Members) → left ≡ member k next rest
    → bytes_eq k name ≡ false → SoFar p at name j left → SoFar p at name j rest
passed_over p at name j left k next rest is other now =
    let turn = now.2 ∙ ap (λ ms. later_or (get_member name ms) now.0) is in
    let pick = λ (b : Bool). later_or (later_or (get_member name rest) (cond b (Some next) None)) now.0 in
    (now.0, now.1, turn ∙ ap pick other ∙ ap (λ o. later_or o now.0) (sym (or_none _)))
