-- Sums over obligations: one obligation more, and how large they are.
use Rattle.std.proofs.Common.{◌≡◌, ℕ, ◌+◌, ◌≤◌, ℤ, pos, Bool, true, false, cond, List, [], ◌∷◌, ◌++◌, filter, refl, sym, ap, ◌∙◌, arith, inl, inr}
use Rattle.std.specs.Prelude.{◌+ℤ◌, ◌-ℤ◌, unsigned_abs, ◌⊎◌}
use Rattle.std.proofs.lemmas.Int.{ints}
use Rattle.std.proofs.lemmas.List.Sums.{sum_by-cons}
use Rattle.std.proofs.Math.IntN.{+ℤ_idl, +ℤ_comm, +ℤ_assoc}
use Rattle.netting_positions.specs.declared.obligation.Obligation.{Obligation}
use Rattle.netting_positions.specs.Netting.{amounts, size, total, total_size}
use Rattle.netting_positions.specs.Inner.Rows.{counted}

-- the amounts together of those that pass
abbrev pub sum_of : (Obligation → Bool) → List Obligation → ℤ
sum_of p os = total (amounts (filter p os))

pub counted_cases : (p : Obligation → Bool) (o : Obligation) → (counted p o ≡ o.amount) ⊎ (counted p o ≡ pos 0)
counted_cases p o = elim (p o) as (λ b. (cond b o.amount (pos 0) ≡ o.amount) ⊎ (cond b o.amount (pos 0) ≡ pos 0)) [ true ↦ inl refl | false ↦ inr refl ]

pub sum_of-cons : (p : Obligation → Bool) (o : Obligation) (os : List Obligation) → sum_of p (o ∷ os) ≡ counted p o +ℤ sum_of p os
sum_of-cons p o os =
    elim (p o) as (λ b. total (amounts (cond b (o ∷ filter p os) (filter p os))) ≡ cond b o.amount (pos 0) +ℤ sum_of p os) [
      | true ↦ refl
      | false ↦ sym (+ℤ_idl (sum_of p os))
    ]

pub sum_of-push : (p : Obligation → Bool) (os : List Obligation) (o : Obligation) → sum_of p (os ++ o ∷ []) ≡ sum_of p os +ℤ counted p o
sum_of-push p [] o = sum_of-cons p o [] ∙ +ℤ_comm (counted p o) (pos 0)
sum_of-push p (x ∷ os) o =
    sum_of-cons p x (os ++ o ∷ []) ∙ ap (λ z. counted p x +ℤ z) (sum_of-push p os o)
    ∙ sym (+ℤ_assoc (counted p x) (sum_of p os) (counted p o))
    ∙ ap (λ z. z +ℤ counted p o) (sym (sum_of-cons p x os))

-- ---- how large

small_more : (a c s t : ℤ) (n : ℕ) → t ≡ c +ℤ s → (c ≡ a) ⊎ (c ≡ pos 0) → unsigned_abs s ≤ n → (m : ℕ) → m ≡ unsigned_abs a + n → unsigned_abs t ≤ m
small_more a c s t n e cases small m is = omega (arith, ints)

pub sum_of_small : (p : Obligation → Bool) (os : List Obligation) → unsigned_abs (sum_of p os) ≤ total_size os
sum_of_small p [] = omega arith
sum_of_small p (o ∷ os) =
    small_more o.amount (counted p o) (sum_of p os) (sum_of p (o ∷ os)) (total_size os) (sum_of-cons p o os) (counted_cases p o) (sum_of_small p os)
    (total_size (o ∷ os)) (sum_by-cons size o os)

net_more : (a c d s t s' t' : ℤ) (n : ℕ) → s' ≡ c +ℤ s → t' ≡ d +ℤ t → (c ≡ a) ⊎ (c ≡ pos 0) → (d ≡ a) ⊎ (d ≡ pos 0)
    → unsigned_abs (s -ℤ t) ≤ n → (m : ℕ) → m ≡ unsigned_abs a + n → unsigned_abs (s' -ℤ t') ≤ m
net_more a c d s t s' t' n e f cs ds small m is = omega (arith, ints)

pub difference_small : (p q : Obligation → Bool) (os : List Obligation) → unsigned_abs (sum_of p os -ℤ sum_of q os) ≤ total_size os
difference_small p q [] = omega arith
difference_small p q (o ∷ os) =
    net_more o.amount (counted p o) (counted q o) (sum_of p os) (sum_of q os) (sum_of p (o ∷ os)) (sum_of q (o ∷ os)) (total_size os)
    (sum_of-cons p o os) (sum_of-cons q o os) (counted_cases p o) (counted_cases q o) (difference_small p q os)
    (total_size (o ∷ os)) (sum_by-cons size o os)
