-- What a chain over a slice with places keeps.
use Rattle.std.proofs.Common.{◌≡◌, ap, refl, subst, ℕ, suc, ◌+◌, ◌%◌, ◌^◌, ◌<◌, Bool, true, false, List, [], ◌∷◌, map, length, Option, Some, None, Bor, arith}
use Rattle.std.specs.Prelude.{if◌then◌else◌, filter}
use Rattle.std.specs.List.{AllZip, enumerate_from, filter_map}
use Rattle.rayon.specs.Lists.{enumerate_from as wrapping_from}

module _ {X Y : Type 0} (keeps : X → Bool) (f : X → Y) where
  -- keeping by an option is a filter
  pub filter_map-filter : (xs : List X) → filter_map (λ x. if keeps x then Some (f x) else None) xs ≡ map f (filter keeps xs)
  filter_map-filter [] = refl
  filter_map-filter (x ∷ xs) = go (keeps x) refl (filter_map-filter xs)
    where
      go : (b : Bool) → keeps x ≡ b → filter_map (λ y. if keeps y then Some (f y) else None) xs ≡ map f (filter keeps xs) → filter_map (λ y. if keeps y then Some (f y) else None) (x ∷ xs) ≡ map f (filter keeps (x ∷ xs))
      go true is rest = rw is (ap (λ ys. f x ∷ ys) rest)
      go false is rest = rw is rest

module _ {X Y : Type 0} (h : ℕ × X → Option Y) where
  abbrev pub Answers : ℕ × Bor X → Option Y → Type 0
  Answers p o = o ≡ h (p.0, p.1.now)

  -- places below the size of a word do not wrap
  onward : (n : ℕ) (xs : List (Bor X)) (os : List (Option Y)) → n + suc (length xs) < 2 ^ 64 → AllZip Answers (wrapping_from ((n + 1) % 2 ^ 64) xs) os → AllZip Answers (wrapping_from (n + 1) xs) os
  onward n xs os few each =
      let next : (n + 1) % 2 ^ 64 ≡ n + 1 = omega arith in
      subst (λ k. AllZip Answers (wrapping_from k xs) os) next each

  -- what is kept of the answers is what is kept of the items at their places
  pub kept : (n : ℕ) (xs : List (Bor X)) (os : List (Option Y)) → n + length xs < 2 ^ 64 → AllZip Answers (wrapping_from n xs) os → filter_map (λ o. o) os ≡ filter_map h (enumerate_from n (map (λ (x : Bor X). x.now) xs))
  kept n [] [] few each = refl
  kept n [] (o ∷ os) few each = absurd each
  kept n (x ∷ xs) [] few each = absurd each
  kept n (x ∷ xs) (o ∷ os) few each =
      let rest = kept (n + 1) xs os (omega (arith, few)) (onward n xs os few each.1) in
      rw (each.0, rest) refl
