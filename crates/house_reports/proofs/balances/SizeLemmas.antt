-- How much is booked, and how large what is owed of it is.
use Rattle.std.proofs.Common.{◌≡◌, ℕ, ◌+◌, ◌≤◌, ℤ, Bool, true, false, cond, List, [], ◌∷◌, filter, arith}
use Rattle.std.specs.Prelude.{◌+ℤ◌, ◌-ℤ◌, unsigned_abs}
use Rattle.std.proofs.lemmas.Int.{ints}
use Rattle.std.proofs.lemmas.List.Sums.{sum_by-cons}
use Rattle.cdr_checks.specs.declared.request.Settlement.{Settlement}
use Rattle.house_reports.specs.balances.Balances.{owed, settled}
use Rattle.house_reports.specs.balances.Bookings.{is_settled}
use Rattle.house_reports.specs.balances.Inner.Narrowed.{size}
use Rattle.house_reports.specs.declared.balances.booking.Booking.{Booking}

pub size-cons : (b : Booking) (bs : List Booking) → size (b ∷ bs) ≡ unsigned_abs b.amount + size bs
size-cons b bs = sum_by-cons (λ booking. unsigned_abs booking.amount) b bs

more : (n m k l : ℕ) → n ≡ k + m → l ≤ m → l ≤ n
more n m k l e h = omega arith

more_both : (n n' m k l : ℕ) → n ≡ k + m → n' ≡ k + l → l ≤ m → n' ≤ n
more_both n n' m k l e e' h = omega arith

-- what is chosen is no more than all
chosen_more : (p : Booking → Bool) (b : Booking) (bs : List Booking) → size (filter p bs) ≤ size bs → size (filter p (b ∷ bs)) ≤ size (b ∷ bs)
chosen_more p b bs h =
    elim (p b) as (λ t. size (cond t (b ∷ filter p bs) (filter p bs)) ≤ size (b ∷ bs)) [
      | true ↦ more_both _ _ _ _ _ (size-cons b bs) (size-cons b (filter p bs)) h
      | false ↦ more _ _ _ _ (size-cons b bs) h
    ]

pub size_filter : (p : Booking → Bool) (bs : List Booking) → size (filter p bs) ≤ size bs
size_filter p [] = omega arith
size_filter p (b ∷ bs) = chosen_more p b bs (size_filter p bs)

-- ---- owed less settled

same_open : (a s t : ℤ) (n m : ℕ) → unsigned_abs (s -ℤ t) ≤ n → m ≡ unsigned_abs a + n → unsigned_abs ((a +ℤ s) -ℤ (a +ℤ t)) ≤ m
same_open a s t n m small is = omega (arith, ints)

more_open : (a s t : ℤ) (n m : ℕ) → unsigned_abs (s -ℤ t) ≤ n → m ≡ unsigned_abs a + n → unsigned_abs ((a +ℤ s) -ℤ t) ≤ m
more_open a s t n m small is = omega (arith, ints)

open_more : (all : List Settlement) (b : Booking) (bs : List Booking) → unsigned_abs (owed bs -ℤ settled all bs) ≤ size bs
    → unsigned_abs (owed (b ∷ bs) -ℤ settled all (b ∷ bs)) ≤ size (b ∷ bs)
open_more all b bs h =
    elim (is_settled all b) as (λ t. unsigned_abs (owed (b ∷ bs) -ℤ owed (cond t (b ∷ filter (is_settled all) bs) (filter (is_settled all) bs))) ≤ size (b ∷ bs)) [
      | true ↦ same_open b.amount (owed bs) (settled all bs) (size bs) (size (b ∷ bs)) h (size-cons b bs)
      | false ↦ more_open b.amount (owed bs) (settled all bs) (size bs) (size (b ∷ bs)) h (size-cons b bs)
    ]

pub open_small : (all : List Settlement) (bs : List Booking) → unsigned_abs (owed bs -ℤ settled all bs) ≤ size bs
open_small all [] = omega (arith, ints)
open_small all (b ∷ bs) = open_more all b bs (open_small all bs)
