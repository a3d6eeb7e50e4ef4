-- Lists of obligations of items of which at most one passes a test.
use Rattle.std.proofs.Common.{◌≡◌, ◌∙◌, ◌≤◌, ◌+◌, ◌&&◌, ◌||◌, ℤ, List, [], ◌∷◌, Bool, true, false, not, cond, refl, sym, ap, ap₂, filter, flat_map, pos, arith}
use Rattle.std.specs.Prelude.{◌+ℤ◌}
use Rattle.std.specs.List.{list_any}
use Rattle.std.proofs.Math.IntN.{+ℤ_idl, +ℤ_idr}
use Rattle.std.proofs.lemmas.List.Folds.{list_any-append}
use Rattle.std.proofs.lemmas.List.Sums.{sum_by-append, sum_by-cons}
use Rattle.ocpi_types.specs.Different.{all_different}
use Rattle.netting_positions.specs.Netting.{size, total_size}
use Rattle.netting_positions.specs.declared.obligation.Obligation.{Obligation}
use Rattle.operator_book.proofs.AmountLemmas.{sum_of, sum_of-append}
use Rattle.operator_book.proofs.KeyLemmas.{both_are}

either_false : (a b : Bool) → (a || b) ≡ false → (a ≡ false) × (b ≡ false)
either_false true b h = absurd (cc)
either_false false b h = (refl, h)

-- ---- items of which at most one passes

module _ {X : Type 0} (alike : X → X → Bool) (m : X → Bool) (alone : (x y : X) → m x ≡ true → m y ≡ true → alike x y ≡ true) where
  none_else : (x : X) (xs : List X) → list_any (alike x) xs ≡ false → m x ≡ true → list_any m xs ≡ false
  none_else x [] h is = refl
  none_else x (y ∷ ys) h is = by (m y) refl (none_else x ys)
    where
      by : (b : Bool) → m y ≡ b → (list_any (alike x) ys ≡ false → m x ≡ true → list_any m ys ≡ false) → (m y || list_any m ys) ≡ false
      by true good rest =
          let e : true ≡ false = sym (alone x y is good) ∙ (either_false (alike x y) (list_any (alike x) ys) h).0 in absurd (cc)
      by false bad rest = ap (λ b. b || list_any m ys) bad ∙ rest (either_false (alike x y) (list_any (alike x) ys) h).1 is

  no_others : (x : X) (xs : List X) → all_different alike (x ∷ xs) ≡ true → m x ≡ true → list_any m xs ≡ false
  no_others x xs h is = none_else x xs (is_not (list_any (alike x) xs) (both_are (not (list_any (alike x) xs)) (all_different alike xs) h).0) is
    where
      is_not : (b : Bool) → not b ≡ true → b ≡ false
      is_not true g = absurd (cc)
      is_not false g = refl

  pub sum_once : (f : X → List Obligation) (t : Obligation → Bool) (s : ℤ) → ((x : X) → sum_of t (f x) ≡ cond (m x) s (pos 0)) → (xs : List X) → all_different alike xs ≡ true
      → sum_of t (flat_map f xs) ≡ cond (list_any m xs) s (pos 0)
  sum_once f t s each [] h = refl
  sum_once f t s each (x ∷ xs) h =
      sum_of-append t (f x) (flat_map f xs)
      ∙ ap₂ ◌+ℤ◌ (each x) (sum_once f t s each xs (both_are (not (list_any (alike x) xs)) (all_different alike xs) h).1)
      ∙ by (m x) (no_others x xs h)
    where
      by : (b : Bool) → (b ≡ true → list_any m xs ≡ false) → cond b s (pos 0) +ℤ cond (list_any m xs) s (pos 0) ≡ cond (b || list_any m xs) s (pos 0)
      by true others = ap (λ b. s +ℤ cond b s (pos 0)) (others refl) ∙ +ℤ_idr s
      by false others = +ℤ_idl (cond (list_any m xs) s (pos 0))

pub or_and : (a b c : Bool) → ((a && c) || (b && c)) ≡ ((a || b) && c)
or_and true true true = refl
or_and true true false = refl
or_and true false true = refl
or_and true false false = refl
or_and false b c = refl

pub any_once : {X : Type 0} (m : X → Bool) (f : X → List Obligation) (t : Obligation → Bool) (b : Bool) → ((x : X) → list_any t (f x) ≡ (m x && b)) → (xs : List X)
    → list_any t (flat_map f xs) ≡ (list_any m xs && b)
any_once m f t b each [] = refl
any_once m f t b each (x ∷ xs) =
    list_any-append t (f x) (flat_map f xs) ∙ ap₂ ◌||◌ (each x) (any_once m f t b each xs) ∙ or_and (m x) (list_any m xs) b

-- ---- how large

pub kept_least : (p : Obligation → Bool) (os : List Obligation) → total_size (filter p os) ≤ total_size os
kept_least p [] = omega arith
kept_least p (o ∷ os) = by (p o) (kept_least p os)
  where
    by : (b : Bool) → total_size (filter p os) ≤ total_size os → total_size (cond b (o ∷ filter p os) (filter p os)) ≤ total_size (o ∷ os)
    by true rest = omega (arith, sum_by-cons size o (filter p os), sum_by-cons size o os)
    by false rest = omega (arith, sum_by-cons size o os)

parts_of : (a b : Bool) (o : Obligation) (p q both : List Obligation) → (a ≡ true → b ≡ false) → total_size p + total_size q ≤ total_size both
    → total_size (cond a (o ∷ p) p) + total_size (cond b (o ∷ q) q) ≤ total_size (cond (a || b) (o ∷ both) both)
parts_of true true o p q both apart rest = let e : true ≡ false = apart refl in absurd (cc)
parts_of true false o p q both apart rest = omega (arith, sum_by-cons size o p, sum_by-cons size o both)
parts_of false true o p q both apart rest = omega (arith, sum_by-cons size o q, sum_by-cons size o both)
parts_of false false o p q both apart rest = rest

parts_least : (p q : Obligation → Bool) → ((o : Obligation) → p o ≡ true → q o ≡ false) → (os : List Obligation)
    → total_size (filter p os) + total_size (filter q os) ≤ total_size (filter (λ o. p o || q o) os)
parts_least p q apart [] = omega arith
parts_least p q apart (o ∷ os) =
    parts_of (p o) (q o) o (filter p os) (filter q os) (filter (λ x. p x || q x) os) (apart o) (parts_least p q apart os)

module _ {X : Type 0} (alike : X → X → Bool) (b : X → Obligation → Bool) (alone : (o : Obligation) (x y : X) → b x o ≡ true → b y o ≡ true → alike x y ≡ true) where
  pub sizes_once : (f : X → List Obligation) (os : List Obligation) → ((x : X) → total_size (f x) ≤ total_size (filter (b x) os)) → (xs : List X) → all_different alike xs ≡ true
      → total_size (flat_map f xs) ≤ total_size (filter (λ o. list_any (λ x. b x o) xs) os)
  sizes_once f os each [] h = omega arith
  sizes_once f os each (x ∷ xs) h =
      let rest = sizes_once f os each xs (both_are (not (list_any (alike x) xs)) (all_different alike xs) h).1 in
      let one = each x in
      let parts = parts_least (b x) (λ (o : Obligation). list_any (λ y. b y o) xs) (λ o. no_others alike (λ y. b y o) (alone o) x xs h) os in
      omega (arith, sum_by-append size (f x) (flat_map f xs))
