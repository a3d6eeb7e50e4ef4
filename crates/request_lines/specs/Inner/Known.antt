-- Bytes that are known over several calls.
use Rattle.std.specs.Prelude.{◌≡◌, ℕ, ◌+◌, ◌^◌, ◌<◌, List, [], ◌++◌, Option, Some, None, refl}
use Rattle.std.specs.Io.KnownBytes.{Consumes, Appends}
use Rattle.std.proofs.Common.{sym, ap, ◌∙◌, append_assoc, arith}
use Rattle.std.proofs.lemmas.List.{append-nil}

pub consumes_none : (a : Option (List ℕ)) → Consumes a a []
consumes_none None = tt
consumes_none (Some xs) = refl

pub consumes_more : (a b c : Option (List ℕ)) (xs ys : List ℕ) → Consumes a b xs → Consumes b c ys → Consumes a c (xs ++ ys)
consumes_more None b c xs ys h k = tt
consumes_more (Some us) None c xs ys h k = absurd h
consumes_more (Some us) (Some bs) None xs ys h k = absurd k
consumes_more (Some us) (Some bs) (Some cs) xs ys h k = h ∙ ap (λ (t : List ℕ). xs ++ t) k ∙ sym (append_assoc xs ys cs)

-- no call is counted, and no byte is consumed
pub gives_none : (a : Option (List ℕ)) (r : ℕ) → (r + 0 < 2 ^ 64 → r ≡ r + 0) × Consumes a a []
gives_none a r = (λ h. omega arith, consumes_none a)

-- the calls add up, and the bytes follow one another
pub gives_more : (a b c : Option (List ℕ)) (r s t m n : ℕ) (xs ys : List ℕ) →
    (r + m < 2 ^ 64 → s ≡ r + m) × Consumes a b xs → (s + n < 2 ^ 64 → t ≡ s + n) × Consumes b c ys →
    (r + (m + n) < 2 ^ 64 → t ≡ r + (m + n)) × Consumes a c (xs ++ ys)
gives_more a b c r s t m n xs ys h k = (counted, consumes_more a b c xs ys h.1 k.1)
  where
    counted : r + (m + n) < 2 ^ 64 → t ≡ r + (m + n)
    counted below =
        let first : s ≡ r + m = h.0 (omega (arith, below)) in
        let second : t ≡ s + n = k.0 (omega (arith, below, first)) in
        omega (arith, first, second)

pub appends_none : (a : Option (List ℕ)) → Appends a a []
appends_none None = tt
appends_none (Some xs) = sym (append-nil xs)

pub appends_more : (a b c : Option (List ℕ)) (xs ys : List ℕ) → Appends a b xs → Appends b c ys → Appends a c (xs ++ ys)
appends_more None b c xs ys h k = tt
appends_more (Some us) None c xs ys h k = absurd h
appends_more (Some us) (Some bs) None xs ys h k = absurd k
appends_more (Some us) (Some bs) (Some cs) xs ys h k = k ∙ ap (λ (t : List ℕ). t ++ ys) h ∙ append_assoc us xs ys
