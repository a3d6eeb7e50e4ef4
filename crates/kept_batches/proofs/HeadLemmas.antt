-- Heads.
use Rattle.std.proofs.Common.{◌≡◌, ◌≢◌, ◌⊎◌, inl, inr, ℕ, ◌+◌, Bool, true, false, if◌then◌else◌, List, [], ◌∷◌, ◌++◌, length, take, drop, refl, sym, ◌∙◌, ap, subst, arith, length-append, reverse}
use Rattle.std.proofs.lemmas.Bool.{cases_eq}
use Rattle.std.proofs.lemmas.Bool.Decides.{nat_tests}
use Rattle.std.proofs.lemmas.List.{take_at, drop_at, reverse-reverse}
use Rattle.sha2.proofs.Facts256.{length-sha256}
use Rattle.kept_batches.specs.Heads.{head_back, Collide, Inputs, same_bytes, collision_back}
use Rattle.kept_batches.specs.Laws.{HeadsCollide, ReceiptsHold}

pub length-head_back : (lines : List (List ℕ)) → length (head_back lines) ≡ 32
length-head_back [] = length-sha256 []
length-head_back (line ∷ before) = length-sha256 (head_back before ++ line)

pub data Same (xs ys : List ℕ) : Type 0 where
  is : xs ≡ ys → same_bytes xs ys ≡ true → Same xs ys
  is_not : xs ≢ ys → same_bytes xs ys ≡ false → Same xs ys

pub cases_same : (xs ys : List ℕ) → Same xs ys
cases_same [] [] = is refl refl
cases_same [] (y ∷ ys) = is_not (λ e. cc (e)) refl
cases_same (x ∷ xs) [] = is_not (λ e. cc (e)) refl
cases_same (x ∷ xs) (y ∷ ys) = more (cases_eq x y) (cases_same xs ys)
  where
    more : (x ≡ y) ⊎ (x ≡ y → ⊥) → Same xs ys → Same (x ∷ xs) (y ∷ ys)
    more (inr not) tail = is_not (λ e. not (cc (e))) (grind (arith, nat_tests))
    more (inl one) (is e t) = is (cc (one, e)) (grind (arith, nat_tests))
    more (inl one) (is_not n t) = is_not (λ e. n (cc (e))) (grind (arith, nat_tests))

same_front : (a b x y : List ℕ) → length a ≡ 32 → length b ≡ 32 → a ++ x ≡ b ++ y → a ≡ b
same_front a b x y la lb e = sym (take_at a x 32 la) ∙ ap (λ (l : List ℕ). take 32 l) e ∙ take_at b y 32 lb

same_back : (a b x y : List ℕ) → length a ≡ 32 → length b ≡ 32 → a ++ x ≡ b ++ y → x ≡ y
same_back a b x y la lb e = sym (drop_at a x 32 la) ∙ ap (λ (l : List ℕ). drop 32 l) e ∙ drop_at b y 32 lb

longer : (a x : List ℕ) → length a ≡ 32 → a ++ x ≢ []
longer a x la e = absurd (let n : 32 + length x ≡ 0 = sym (ap (λ (n : ℕ). n + length x) la) ∙ sym (length-append a x) ∙ ap length e in omega (arith, n))

heads_back : (xs ys : List (List ℕ)) → head_back xs ≡ head_back ys → xs ≢ ys → Collide (collision_back xs ys).one (collision_back xs ys).other
heads_back [] [] same differ = absurd (differ refl)
heads_back [] (y ∷ ys) same differ = record { different = λ e. longer (head_back ys) y (length-head_back ys) (sym e); same = same }
heads_back (x ∷ xs) [] same differ = record { different = longer (head_back xs) x (length-head_back xs); same = same }
heads_back (x ∷ xs) (y ∷ ys) same differ = step (heads_back xs ys) (cases_same (head_back xs ++ x) (head_back ys ++ y))
  where
    here : Inputs
    here = record { one = head_back xs ++ x; other = head_back ys ++ y }

    Picks : Bool → Type 0
    Picks b = Collide (if b then collision_back xs ys else here).one (if b then collision_back xs ys else here).other

    step : (head_back xs ≡ head_back ys → xs ≢ ys → Collide (collision_back xs ys).one (collision_back xs ys).other) → Same (head_back xs ++ x) (head_back ys ++ y) → Picks (same_bytes (head_back xs ++ x) (head_back ys ++ y))
    step before (is_not n t) = subst Picks (sym t) (record { different = n; same = same })
    step before (is e t) =
        let one = same_front (head_back xs) (head_back ys) x y (length-head_back xs) (length-head_back ys) e in
        let other = same_back (head_back xs) (head_back ys) x y (length-head_back xs) (length-head_back ys) e in
        subst Picks (sym t) (before one (λ more. differ (cc (more, other))))

pub heads_collide : HeadsCollide
heads_collide xs ys same differ =
    heads_back (reverse xs) (reverse ys) same (λ e. differ (sym (reverse-reverse xs) ∙ ap reverse e ∙ reverse-reverse ys))

pub receipts_hold : ReceiptsHold
receipts_hold one other xs ys count keeps keeps_too same differ = heads_collide (take count xs) (take count ys) same differ
