-- What `first_of` finds is the first.
use Rattle.std.proofs.Common.{◌≡◌, ◌∙◌, ℕ, suc, ◌+◌, true, ◌&&◌, List, [], ◌∷◌, take, refl, ap, arith, Option, Some, None, is_none, option_and_then}
use Rattle.std.specs.Prelude.{slice_get}
use Rattle.std.specs.List.{list_all}
use Rattle.tariff_elements.specs.FirstOf.{first_from, first_of, IsFirstOf, or_later}

-- so many are passed over, and of the next there is this to say
record IsAfter {X Y : Type 0} (say : X → Option Y) (xs : List X) (number : ℕ) (found : ℕ × Y) : Type 0 where
  passed : ℕ
  numbered : found.0 ≡ number + passed
  said : option_and_then say (slice_get xs passed) ≡ Some found.1
  nothing_before : list_all (λ x. is_none (say x)) (take passed xs) ≡ true

abbrev IsFound : {X Y : Type 0} → (X → Option Y) → List X → ℕ → Option (ℕ × Y) → Type 0
IsFound say xs number None = list_all (λ x. is_none (say x)) xs ≡ true
IsFound say xs number (Some found) = IsAfter say xs number found

module _ {X Y : Type 0} (say : X → Option Y) where
  with_first : (x : X) → say x ≡ None → (xs : List X) → list_all (λ y. is_none (say y)) xs ≡ true → list_all (λ y. is_none (say y)) (x ∷ xs) ≡ true
  with_first x none xs all = ap (λ (o : Option Y). is_none o && list_all (λ y. is_none (say y)) xs) none ∙ all

  found : (number : ℕ) (xs : List X) → IsFound say xs number (first_from say number xs)
  found number [] = refl
  found number (x ∷ xs) = by (say x) refl (first_from say (number + 1) xs) (found (number + 1) xs)
    where
      by : (o : Option Y) → say x ≡ o → (later : Option (ℕ × Y)) → IsFound say xs (number + 1) later → IsFound say (x ∷ xs) number (or_later number o later)
      by (Some y) e later h = record { passed = 0; numbered = omega arith; said = e; nothing_before = refl }
      by None e None h = with_first x e xs h
      by None e (Some f) h = record {
        passed = suc h.passed;
        numbered = omega (arith, h.numbered);
        said = h.said;
        nothing_before = with_first x e (take h.passed xs) h.nothing_before;
      }

  pub finds_first : (xs : List X) → IsFirstOf say xs (first_of say xs)
  finds_first xs = by (first_of say xs) (found 0 xs)
    where
      same : (f : ℕ × Y) (h : IsAfter say xs 0 f) → f.0 ≡ h.passed
      same f h = omega (arith, h.numbered)

      by : (o : Option (ℕ × Y)) → IsFound say xs 0 o → IsFirstOf say xs o
      by None h = h
      by (Some f) h = (
        ap (λ n. option_and_then say (slice_get xs n)) (same f h) ∙ h.said,
        ap (λ n. list_all (λ x. is_none (say x)) (take n xs)) (same f h) ∙ h.nothing_before,
      )
