-- The amounts of obligations, together.
use Rattle.std.proofs.Common.{◌≡◌, ◌∙◌, ◌≤◌, ◌+◌, ℕ, ℤ, pos, List, [], ◌∷◌, ◌++◌, Bool, true, false, cond, filter, refl, sym, ap, arith}
use Rattle.std.specs.Prelude.{◌+ℤ◌, unsigned_abs}
use Rattle.std.proofs.Math.IntN.{+ℤ_idl, +ℤ_idr, +ℤ_assoc}
use Rattle.std.proofs.lemmas.Int.{ints}
use Rattle.std.proofs.lemmas.List.Sums.{sum_by-cons}
use Rattle.netting_positions.specs.Netting.{amounts, size, total, total_size}
use Rattle.netting_positions.specs.declared.obligation.Obligation.{Obligation}

-- the amounts together of those that pass
abbrev pub sum_of : (Obligation → Bool) → List Obligation → ℤ
sum_of p os = total (amounts (filter p os))

pub sum_of-cons : (p : Obligation → Bool) (o : Obligation) (os : List Obligation) → sum_of p (o ∷ os) ≡ cond (p o) o.amount (pos 0) +ℤ sum_of p os
sum_of-cons p o os = by (p o)
  where
    by : (b : Bool) → total (amounts (cond b (o ∷ filter p os) (filter p os))) ≡ cond b o.amount (pos 0) +ℤ sum_of p os
    by true = refl
    by false = sym (+ℤ_idl (sum_of p os))

pub sum_of-append : (p : Obligation → Bool) (xs ys : List Obligation) → sum_of p (xs ++ ys) ≡ sum_of p xs +ℤ sum_of p ys
sum_of-append p [] ys = sym (+ℤ_idl (sum_of p ys))
sum_of-append p (x ∷ xs) ys =
    sum_of-cons p x (xs ++ ys) ∙ ap (λ z. cond (p x) x.amount (pos 0) +ℤ z) (sum_of-append p xs ys)
    ∙ sym (+ℤ_assoc (cond (p x) x.amount (pos 0)) (sum_of p xs) (sum_of p ys)) ∙ ap (λ z. z +ℤ sum_of p ys) (sym (sum_of-cons p x xs))

pub sum_of-push : (p : Obligation → Bool) (os : List Obligation) (o : Obligation) → sum_of p (os ++ o ∷ []) ≡ sum_of p os +ℤ cond (p o) o.amount (pos 0)
sum_of-push p os o = sum_of-append p os (o ∷ []) ∙ ap (λ z. sum_of p os +ℤ z) (sum_of-cons p o [] ∙ +ℤ_idr (cond (p o) o.amount (pos 0)))

-- ---- how large

larger : (b : Bool) (a s t : ℤ) (n : ℕ) → t ≡ cond b a (pos 0) +ℤ s → unsigned_abs s ≤ n → (m : ℕ) → m ≡ unsigned_abs a + n → unsigned_abs t ≤ m
larger true a s t n e small m is = omega (arith, ints)
larger false a s t n e small m is = omega (arith, ints)

pub sum_of_small : (p : Obligation → Bool) (os : List Obligation) → unsigned_abs (sum_of p os) ≤ total_size os
sum_of_small p [] = omega arith
sum_of_small p (o ∷ os) =
    larger (p o) o.amount (sum_of p os) (sum_of p (o ∷ os)) (total_size os) (sum_of-cons p o os) (sum_of_small p os) (total_size (o ∷ os)) (sum_by-cons size o os)
