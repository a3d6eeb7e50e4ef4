-- What is found at the first place at which a test passes.
use Rattle.std.proofs.Common.{◌≡◌, ◌∙◌, ℕ, ◌+◌, suc, List, [], ◌∷◌, ◌++◌, Bool, true, false, cond, Option, Some, None, refl, sym, ap, subst, length, rules, slice_get, find, flat_map, arith}
use Rattle.std.specs.List.{position_from}
use Rattle.std.specs.Option.{option_or, option_to_list}
use Rattle.std.proofs.lemmas.List.Folds.{find-append}

pub or_none : {A : Type 0} (o : Option A) → option_or o None ≡ o
or_none None = refl
or_none (Some x) = refl

slice_get-suc : {E : Type 0} (x : E) (xs : List E) (i : ℕ) → slice_get (x ∷ xs) (suc i) ≡ slice_get xs i
slice_get-suc x xs i = search rules

-- an item more is found where none was before
pub place-append : {E : Type 0} (q : E → Bool) (n : ℕ) (xs : List E) (y : E)
    → position_from q n (xs ++ y ∷ []) ≡ option_or (position_from q n xs) (cond (q y) (Some (n + length xs)) None)
place-append q n [] y = let e : n ≡ n + 0 = omega arith in ap (λ m. cond (q y) (Some m) None) e
place-append q n (x ∷ xs) y = by (q x) (place-append q (n + 1) xs y)
  where
    by : (b : Bool) → position_from q (n + 1) (xs ++ y ∷ []) ≡ option_or (position_from q (n + 1) xs) (cond (q y) (Some (n + 1 + length xs)) None)
        → cond b (Some n) (position_from q (n + 1) (xs ++ y ∷ []))
        ≡ option_or (cond b (Some n) (position_from q (n + 1) xs)) (cond (q y) (Some (n + length (x ∷ xs))) None)
    by true rest = refl
    by false rest =
        let e : n + 1 + length xs ≡ n + length (x ∷ xs) = omega arith in
        rest ∙ ap (λ m. option_or (position_from q (n + 1) xs) (cond (q y) (Some m) None)) e

pub place_after : {E : Type 0} (q : E → Bool) (xs : List E) (y : E)
    → position_from q 0 (xs ++ y ∷ []) ≡ option_or (position_from q 0 xs) (cond (q y) (Some (length xs)) None)
place_after q xs y =
    let e : 0 + length xs ≡ length xs = omega arith in
    place-append q 0 xs y ∙ ap (λ n. option_or (position_from q 0 xs) (cond (q y) (Some n) None)) e

-- what passes the second test among what each item has is found by the first test of items
pub record IsTestOf {E A : Type 0} (f : E → List A) (p : A → Bool) (q : E → Bool) : Type 0 where
  pub passes : (e : E) → q e ≡ true → (x : A) × (f e ≡ x ∷ []) × (p x ≡ true)
  pub fails : (e : E) → q e ≡ false → find p (f e) ≡ None

-- the item at this place has the first one that passes
pub record Found {E A : Type 0} (f : E → List A) (p : A → Bool) (xs : List E) (place : ℕ) : Type 0 where
  pub item : E
  pub one : A
  pub stands : slice_get xs place ≡ Some item
  pub only : f item ≡ one ∷ []
  pub first : find p (flat_map f xs) ≡ Some one

module _ {E A : Type 0} (f : E → List A) (p : A → Bool) (q : E → Bool) (test : IsTestOf f p q) where
  found_now : (x : E) (xs : List E) → q x ≡ true → Found f p (x ∷ xs) 0
  found_now x xs good =
      let (a, only, passing) = test.passes x good in
      record {
        item = x;
        one = a;
        stands = refl;
        only = only;
        first = find-append p (f x) (flat_map f xs) ∙ ap (λ (l : List A). option_or (find p l) (find p (flat_map f xs))) only
            ∙ ap (λ b. option_or (cond b (Some a) None) (find p (flat_map f xs))) passing;
      }

  found_later : (x : E) (xs : List E) (place : ℕ) → q x ≡ false → Found f p xs place → Found f p (x ∷ xs) (suc place)
  found_later x xs place bad later = record {
    item = later.item;
    one = later.one;
    stands = slice_get-suc x xs place ∙ later.stands;
    only = later.only;
    first = find-append p (f x) (flat_map f xs) ∙ ap (λ o. option_or o (find p (flat_map f xs))) (test.fails x bad) ∙ later.first;
  }

  found_from : (xs : List E) (n i : ℕ) → position_from q n xs ≡ Some i → (place : ℕ) × (i ≡ n + place) × Found f p xs place
  found_from [] n i h = absurd (cc)
  found_from (x ∷ xs) n i h = by (q x) refl (found_from xs (n + 1) i)
    where
      by : (b : Bool) → q x ≡ b → (position_from q (n + 1) xs ≡ Some i → (place : ℕ) × (i ≡ n + 1 + place) × Found f p xs place)
          → (place : ℕ) × (i ≡ n + place) × Found f p (x ∷ xs) place
      by true good rest =
          let here : Some n ≡ Some i = sym (ap (λ b. cond b (Some n) (position_from q (n + 1) xs)) good) ∙ h in
          let same : n ≡ i = cc in
          (0, omega arith, found_now x xs good)
      by false bad rest =
          let (place, is, later) = rest (sym (ap (λ b. cond b (Some n) (position_from q (n + 1) xs)) bad) ∙ h) in
          (suc place, omega arith, found_later x xs place bad later)

  pub found : (xs : List E) (i : ℕ) → position_from q 0 xs ≡ Some i → Found f p xs i
  found xs i h =
      let (place, is, it) = found_from xs 0 i h in
      let same : place ≡ i = omega arith in
      subst (Found f p xs) same it

  none_from : (xs : List E) (n : ℕ) → position_from q n xs ≡ None → find p (flat_map f xs) ≡ None
  none_from [] n h = refl
  none_from (x ∷ xs) n h = by (q x) refl (none_from xs (n + 1))
    where
      by : (b : Bool) → q x ≡ b → (position_from q (n + 1) xs ≡ None → find p (flat_map f xs) ≡ None) → find p (flat_map f (x ∷ xs)) ≡ None
      by true good rest =
          let here : Some n ≡ None = sym (ap (λ b. cond b (Some n) (position_from q (n + 1) xs)) good) ∙ h in absurd (cc)
      by false bad rest =
          find-append p (f x) (flat_map f xs) ∙ ap (λ o. option_or o (find p (flat_map f xs))) (test.fails x bad)
          ∙ rest (sym (ap (λ b. cond b (Some n) (position_from q (n + 1) xs)) bad) ∙ h)

  pub none_found : (xs : List E) → position_from q 0 xs ≡ None → find p (flat_map f xs) ≡ None
  none_found xs h = none_from xs 0 h

-- two ways to have one item or none
pub same_one : {A : Type 0} (a b : Option A) → option_to_list a ≡ option_to_list b → a ≡ b
same_one None None h = refl
same_one None (Some y) h = absurd (cc)
same_one (Some x) None h = absurd (cc)
same_one (Some x) (Some y) h = cc
