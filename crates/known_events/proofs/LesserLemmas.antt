-- An event that passes one of two tests comes first where the first of either does.
use Rattle.std.proofs.Common.{◌≡◌, ◌∙◌, ◌≤◌, ◌<◌, ℕ, ◌+◌, List, [], ◌∷◌, Bool, true, false, ◌||◌, cond, Option, Some, None, refl, sym, ap, ap₂, arith}
use Rattle.std.specs.List.{position, position_from}
use Rattle.std.specs.Prelude.{nat_lt}
use Rattle.std.proofs.lemmas.Bool.{le-ltb, lt-ltb}
use Rattle.std.proofs.lemmas.Iterator.Adapters.{position_from-zero}
use Rattle.known_events.specs.Inner.Lesser.{lesser}

not_before : {E : Type 0} (p : E → Bool) (n : ℕ) (xs : List E) (m : ℕ) → position_from p n xs ≡ Some m → n ≤ m
not_before p n [] m h = absurd (cc)
not_before p n (x ∷ xs) m h = by (p x) h (not_before p (n + 1) xs m)
  where
    by : (b : Bool) → cond b (Some n) (position_from p (n + 1) xs) ≡ Some m → (position_from p (n + 1) xs ≡ Some m → n + 1 ≤ m) → n ≤ m
    by true here rest = let same : n ≡ m = cc in omega arith
    by false later rest = let more = rest later in omega arith

same_either : {A : Type 0} (b : Bool) (x : A) → x ≡ cond b x x
same_either true x = refl
same_either false x = refl

one_first : (n : ℕ) (o : Option ℕ) → ((m : ℕ) → o ≡ Some m → n + 1 ≤ m) → Some n ≡ lesser (Some n) o
one_first n None later = refl
one_first n (Some m) later =
    let more : n + 1 ≤ m = later m refl in
    let less : n ≤ m = omega arith in
    ap (λ b. cond b (Some m) (Some n)) (sym (le-ltb m n less))

other_first : (n : ℕ) (o : Option ℕ) → ((m : ℕ) → o ≡ Some m → n + 1 ≤ m) → Some n ≡ lesser o (Some n)
other_first n None later = refl
other_first n (Some m) later =
    let more : n + 1 ≤ m = later m refl in
    let less : n < m = omega arith in
    ap (λ b. cond b (Some n) (Some m)) (sym (lt-ltb n m less))

pub lesser_from : {E : Type 0} (p q : E → Bool) (n : ℕ) (xs : List E)
    → position_from (λ e. p e || q e) n xs ≡ lesser (position_from p n xs) (position_from q n xs)
lesser_from p q n [] = refl
lesser_from p q n (x ∷ xs) = by (p x) (q x) (lesser_from p q (n + 1) xs)
  where
    by : (b c : Bool) → position_from (λ e. p e || q e) (n + 1) xs ≡ lesser (position_from p (n + 1) xs) (position_from q (n + 1) xs)
        → cond (b || c) (Some n) (position_from (λ e. p e || q e) (n + 1) xs)
        ≡ lesser (cond b (Some n) (position_from p (n + 1) xs)) (cond c (Some n) (position_from q (n + 1) xs))
    by true true rest = same_either (nat_lt n n) (Some n)
    by true false rest = one_first n (position_from q (n + 1) xs) (not_before q (n + 1) xs)
    by false true rest = other_first n (position_from p (n + 1) xs) (not_before p (n + 1) xs)
    by false false rest = rest

pub place_of_either : {E : Type 0} (p q : E → Bool) (xs : List E) → lesser (position p xs) (position q xs) ≡ position (λ e. p e || q e) xs
place_of_either p q xs =
    ap₂ lesser (position_from-zero p xs) (position_from-zero q xs) ∙ sym (lesser_from p q 0 xs) ∙ sym (position_from-zero (λ e. p e || q e) xs)
