-- What a test finds in a list is found among the elements that are kept, where all that pass it are kept.
use Rattle.std.proofs.Common.{◌≡◌, List, [], ◌∷◌, ◌++◌, Bool, true, false, cond, refl, sym, ap, ap₂, ◌∙◌, Some, filter, find, flat_map, count_by, length, reverse, append-nil}
use Rattle.std.proofs.lemmas.List.{reverse-append}
use Rattle.std.proofs.lemmas.List.Elements.{filter-append}
use Rattle.std.proofs.lemmas.List.Sums.{length-filter}

-- all that pass the first pass the second
abbrev pub IsWithin : {X : Type 0} → (X → Bool) → (X → Bool) → Type 0
IsWithin {X} test kept = (x : X) → test x ≡ true → kept x ≡ true

pub find_kept : {X : Type 0} (test kept : X → Bool) → IsWithin test kept → (xs : List X) → find test (filter kept xs) ≡ find test xs
find_kept test kept within [] = refl
find_kept {X} test kept within (x ∷ xs) = by (test x) (kept x) refl refl (find_kept test kept within xs)
  where
    by : (t k : Bool) → test x ≡ t → kept x ≡ k → find test (filter kept xs) ≡ find test xs
        → find test (cond k (x ∷ filter kept xs) (filter kept xs)) ≡ cond t (Some x) (find test xs)
    by true true e f rest = ap (λ (b : Bool). cond b (Some x) (find test (filter kept xs))) e
    by true false e f rest = absurd (let no : false ≡ true = sym f ∙ within x e in cc)
    by false true e f rest = ap (λ (b : Bool). cond b (Some x) (find test (filter kept xs))) e ∙ rest
    by false false e f rest = rest

pub filter_kept : {X : Type 0} (test kept : X → Bool) → IsWithin test kept → (xs : List X) → filter test (filter kept xs) ≡ filter test xs
filter_kept test kept within [] = refl
filter_kept {X} test kept within (x ∷ xs) = by (test x) (kept x) refl refl (filter_kept test kept within xs)
  where
    by : (t k : Bool) → test x ≡ t → kept x ≡ k → filter test (filter kept xs) ≡ filter test xs
        → filter test (cond k (x ∷ filter kept xs) (filter kept xs)) ≡ cond t (x ∷ filter test xs) (filter test xs)
    by true true e f rest = ap₂ (λ (b : Bool) (l : List X). cond b (x ∷ l) l) e rest
    by true false e f rest = absurd (let no : false ≡ true = sym f ∙ within x e in cc)
    by false true e f rest = ap₂ (λ (b : Bool) (l : List X). cond b (x ∷ l) l) e rest
    by false false e f rest = rest

pub count_kept : {X : Type 0} (test kept : X → Bool) → IsWithin test kept → (xs : List X) → count_by test (filter kept xs) ≡ count_by test xs
count_kept test kept within xs =
    sym (length-filter test (filter kept xs)) ∙ ap length (filter_kept test kept within xs) ∙ length-filter test xs

-- the last of those that are kept
reverse_filter : {X : Type 0} (p : X → Bool) (xs : List X) → reverse (filter p xs) ≡ filter p (reverse xs)
reverse_filter p [] = refl
reverse_filter {X} p (x ∷ xs) = by (p x) refl (reverse_filter p xs)
  where
    whole : filter p (reverse (x ∷ xs)) ≡ filter p (reverse xs) ++ cond (p x) (x ∷ []) []
    whole = ap (filter p) (reverse-append (x ∷ []) xs) ∙ filter-append p (reverse xs) (x ∷ [])

    by : (b : Bool) → p x ≡ b → reverse (filter p xs) ≡ filter p (reverse xs) → reverse (cond b (x ∷ filter p xs) (filter p xs)) ≡ filter p (reverse (x ∷ xs))
    by true e rest =
        reverse-append (x ∷ []) (filter p xs) ∙ ap (λ l. l ++ x ∷ []) rest
        ∙ sym (whole ∙ ap (λ (b : Bool). filter p (reverse xs) ++ cond b (x ∷ []) []) e)
    by false e rest = rest ∙ sym (whole ∙ ap (λ (b : Bool). filter p (reverse xs) ++ cond b (x ∷ []) []) e ∙ append-nil (filter p (reverse xs)))

pub find_last_kept : {X : Type 0} (test kept : X → Bool) → IsWithin test kept → (xs : List X) → find test (reverse (filter kept xs)) ≡ find test (reverse xs)
find_last_kept test kept within xs = ap (find test) (reverse_filter kept xs) ∙ find_kept test kept within (reverse xs)

pub none_of : {X : Type 0} (b : Bool) → let none : List X = [] in none ≡ cond b none none
none_of true = refl
none_of false = refl

-- what the kept elements give is what is kept of all that they give
pub flat_kept : {X Y : Type 0} (f : X → List Y) (kept : X → Bool) (its : Y → Bool) → ((x : X) → filter its (f x) ≡ cond (kept x) (f x) []) → (xs : List X)
    → flat_map f (filter kept xs) ≡ filter its (flat_map f xs)
flat_kept f kept its same [] = refl
flat_kept {X} {Y} f kept its same (x ∷ xs) = by (kept x) refl (flat_kept f kept its same xs)
  where
    whole : filter its (f x ++ flat_map f xs) ≡ cond (kept x) (f x) [] ++ filter its (flat_map f xs)
    whole = filter-append its (f x) (flat_map f xs) ∙ ap (λ l. l ++ filter its (flat_map f xs)) (same x)

    by : (b : Bool) → kept x ≡ b → flat_map f (filter kept xs) ≡ filter its (flat_map f xs)
        → flat_map f (cond b (x ∷ filter kept xs) (filter kept xs)) ≡ filter its (f x ++ flat_map f xs)
    by true e rest = ap (λ l. f x ++ l) rest ∙ sym (whole ∙ ap (λ (b : Bool). cond b (f x) [] ++ filter its (flat_map f xs)) e)
    by false e rest = rest ∙ sym (whole ∙ ap (λ (b : Bool). cond b (f x) [] ++ filter its (flat_map f xs)) e)
