-- Sums over the charges that pass a test.
use Rattle.std.proofs.Common.{◌≡◌, ◌+◌, ◌≤◌, ℕ, Bool, true, false, not, ◌&&◌, cond, List, [], ◌∷◌, ◌++◌, filter, refl, ap, ◌∙◌, arith}
use Rattle.std.proofs.lemmas.List.Elements.{filter-append}
use Rattle.std.proofs.lemmas.List.Sums.{sum_by-append, sum_by-cons}
use Rattle.plain_house.specs.declared.entry.Charge.{Charge}
use Rattle.plain_house.specs.Exposure.{total_charged}

pub total-cons : (p : Charge → Bool) (x : Charge) (xs : List Charge)
    → total_charged (filter p (x ∷ xs)) ≡ cond (p x) x.cost 0 + total_charged (filter p xs)
total-cons p x xs =
    elim (p x) as (λ b. total_charged (cond b (x ∷ filter p xs) (filter p xs)) ≡ cond b x.cost 0 + total_charged (filter p xs)) [
      | true ↦ sum_by-cons (λ charge. charge.cost) x (filter p xs)
      | false ↦ omega arith
    ]

pub total-append : (p : Charge → Bool) (xs ys : List Charge)
    → total_charged (filter p (xs ++ ys)) ≡ total_charged (filter p xs) + total_charged (filter p ys)
total-append p xs ys = ap total_charged (filter-append p xs ys) ∙ sum_by-append (λ charge. charge.cost) (filter p xs) (filter p ys)

pub total-push : (p : Charge → Bool) (xs : List Charge) (x : Charge)
    → total_charged (filter p (xs ++ x ∷ [])) ≡ total_charged (filter p xs) + cond (p x) x.cost 0
total-push p xs x =
    let one : total_charged (filter p (x ∷ [])) ≡ cond (p x) x.cost 0 + 0 = total-cons p x [] in
    let all = total-append p xs (x ∷ []) in
    omega arith

-- those that pass are those that pass a second test and those that do not
pub total-split : (p q : Charge → Bool) (xs : List Charge)
    → total_charged (filter p xs) ≡ total_charged (filter (λ x. p x && not (q x)) xs) + total_charged (filter (λ x. p x && q x) xs)
total-split p q [] = refl
total-split p q (x ∷ xs) =
    let all = total-cons p x xs in
    let without = total-cons (λ y. p y && not (q y)) x xs in
    let with = total-cons (λ y. p y && q y) x xs in
    let here : cond (p x) x.cost 0 ≡ cond (p x && not (q x)) x.cost 0 + cond (p x && q x) x.cost 0 = parts (p x) (q x) x.cost in
    let rest = total-split p q xs in
    omega arith
  where
    parts : (a b : Bool) (n : ℕ) → cond a n 0 ≡ cond (a && not b) n 0 + cond (a && b) n 0
    parts true true n = omega arith
    parts true false n = omega arith
    parts false b n = refl

-- a test that passes more adds up to more
pub total-weaker : (p q : Charge → Bool) → ((x : Charge) → p x ≡ true → q x ≡ true) → (xs : List Charge)
    → total_charged (filter p xs) ≤ total_charged (filter q xs)
total-weaker p q weaker [] = omega arith
total-weaker p q weaker (x ∷ xs) =
    let small = total-cons p x xs in
    let large = total-cons q x xs in
    let here : cond (p x) x.cost 0 ≤ cond (q x) x.cost 0 = less (p x) (q x) x.cost (weaker x) in
    let rest = total-weaker p q weaker xs in
    omega arith
  where
    less : (a b : Bool) (n : ℕ) → (a ≡ true → b ≡ true) → cond a n 0 ≤ cond b n 0
    less true true n h = omega arith
    less true false n h = absurd (Prim.cc (h refl))
    less false b n h = omega arith

pub filter-filter : (p q : Charge → Bool) (xs : List Charge) → filter (λ x. p x && q x) xs ≡ filter p (filter q xs)
filter-filter p q [] = refl
filter-filter p q (x ∷ xs) =
    let rest = filter-filter p q xs in
    let both : List Charge = filter (λ y. p y && q y) xs in
    elim (q x) as (λ b. cond (p x && b) (x ∷ both) both ≡ filter p (cond b (x ∷ filter q xs) (filter q xs))) [
      | true ↦ elim (p x) as (λ a. cond (a && true) (x ∷ both) both ≡ cond a (x ∷ filter p (filter q xs)) (filter p (filter q xs))) [
        | true ↦ ap (λ l. x ∷ l) rest
        | false ↦ rest
      ]
      | false ↦ elim (p x) as (λ a. cond (a && false) (x ∷ both) both ≡ filter p (filter q xs)) [
        | true ↦ rest
        | false ↦ rest
      ]
    ]
