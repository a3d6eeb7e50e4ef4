-- Lists that grow by one element after another, each by what stands before it.
use Rattle.std.proofs.Common.{◌≡◌, ◌⊎◌, inl, inr, List, [], ◌∷◌, ◌++◌, refl, sym, ap, ap₂, ◌∙◌, subst, append_assoc, append-nil}

-- each element of a list is given to those before it
abbrev pub AllGiven : {X : Type 0} → (List X → X → Type 0) → List X → Type 0
AllGiven {X} Given xs = (before : List X) (x : X) (later : List X) → xs ≡ before ++ x ∷ later → Given before x

nothing : {X : Type 0} (before : List X) (x : X) (later : List X) → [] ≡ before ++ x ∷ later → ⊥
nothing [] x later h = cc
nothing (y ∷ before) x later h = cc

-- an element of a list with one more is the last, or one of the list
pub last_or_before : {X : Type 0} (xs : List X) (e : X) (before : List X) (x : X) (later : List X) → xs ++ e ∷ [] ≡ before ++ x ∷ later
    → ((before ≡ xs) × (x ≡ e)) ⊎ ((rest : List X) × (xs ≡ before ++ x ∷ rest))
last_or_before [] e [] x later h = inl (refl, let same : x ≡ e = cc in same)
last_or_before [] e (y ∷ before) x later h = absurd (nothing before x later (let same : [] ≡ before ++ x ∷ later = cc in same))
last_or_before {X} (y ∷ xs) e [] x later h = inr (xs, let same : y ∷ xs ≡ x ∷ xs = ap (λ (z : X). z ∷ xs) (let first : y ≡ x = cc in first) in same)
last_or_before {X} (y ∷ xs) e (z ∷ before) x later h =
    let first : y ≡ z = cc in
    let rest : xs ++ e ∷ [] ≡ before ++ x ∷ later = cc in
    step first (last_or_before xs e before x later rest)
  where
    step : y ≡ z → ((before ≡ xs) × (x ≡ e)) ⊎ ((rest : List X) × (xs ≡ before ++ x ∷ rest))
        → ((z ∷ before ≡ y ∷ xs) × (x ≡ e)) ⊎ ((rest : List X) × (y ∷ xs ≡ z ∷ (before ++ x ∷ rest)))
    step first (inl p) = inl (ap₂ (λ (a : X) (l : List X). a ∷ l) (sym first) p.0, p.1)
    step first (inr p) = inr (p.0, ap₂ (λ (a : X) (l : List X). a ∷ l) first p.1)

module _ {X : Type 0} (Given : List X → X → Type 0) where
  -- what each element given keeps so is so of the whole list
  grown_from : (P : List X → Type 0) → ((before : List X) (x : X) → Given before x → P before → P (before ++ x ∷ []))
      → (before later : List X) → P before → AllGiven Given (before ++ later) → P (before ++ later)
  grown_from P step before [] is given = subst P (sym (append-nil before)) is
  grown_from P step before (x ∷ later) is given =
      let next = step before x (given before x later refl) is in
      let joined : (before ++ x ∷ []) ++ later ≡ before ++ x ∷ later = append_assoc before (x ∷ []) later in
      subst P joined (grown_from P step (before ++ x ∷ []) later next (λ b y l same. given b y l (sym joined ∙ same)))

  pub grown : (P : List X → Type 0) → ((before : List X) (x : X) → Given before x → P before → P (before ++ x ∷ [])) → P [] → (xs : List X) → AllGiven Given xs → P xs
  grown P step empty xs given = grown_from P step [] xs empty given

  pub given_before : (before later : List X) → AllGiven Given (before ++ later) → AllGiven Given before
  given_before before later given = λ b x l same. given b x (l ++ later) (ap (λ (xs : List X). xs ++ later) same ∙ append_assoc b (x ∷ l) later)

  pub given_empty : AllGiven Given []
  given_empty = λ before x later same. absurd (nothing before x later same)

  pub given_push : (xs : List X) (e : X) → AllGiven Given xs → Given xs e → AllGiven Given (xs ++ e ∷ [])
  given_push xs e all given = λ before x later same. by before x (last_or_before xs e before x later same)
    where
      by : (before : List X) (x : X) → ((before ≡ xs) × (x ≡ e)) ⊎ ((rest : List X) × (xs ≡ before ++ x ∷ rest)) → Given before x
      by before x (inl p) = subst (λ (b : List X). Given b x) (sym p.0) (subst (Given xs) (sym p.1) given)
      by before x (inr p) = all before x p.0 p.1
