-- The first event that passes a test after the first that passes another.
use Rattle.std.proofs.Common.{◌≡◌, ◌∙◌, ℕ, ◌+◌, suc, List, [], ◌∷◌, ◌++◌, Bool, true, false, ◌&&◌, ◌||◌, cond, Option, Some, None, refl, sym, ap, ap₂, arith, drop, is_some, length, option_map}
use Rattle.std.specs.List.{list_any, position, position_from}
use Rattle.std.specs.Option.{option_or}
use Rattle.std.proofs.lemmas.Iterator.Adapters.{position_from-zero}
use Rattle.known_events.specs.Inner.Firsts.{first_after_from}
use Rattle.known_events.specs.Inner.Lesser.{lesser}
use Rattle.known_events.proofs.LesserLemmas.{lesser_from}
use Rattle.operator_book.proofs.FoundLemmas.{place-append}

none_either : {A : Type 0} (b : Bool) → let none : Option A = None in none ≡ cond b none none
none_either true = refl
none_either false = refl

module _ {E : Type 0} where
  -- with one event more
  pub after_added : (before test : E → Bool) (n : ℕ) (xs : List E) (y : E)
      → first_after_from before test n (xs ++ y ∷ [])
      ≡ option_or (first_after_from before test n xs) (cond (list_any before xs && test y) (Some (n + length xs)) None)
  after_added before test n [] y = sym (none_either (before y))
  after_added before test n (x ∷ xs) y = by (before x) (after_added before test (n + 1) xs y)
    where
      moved : n + 1 + length xs ≡ n + length (x ∷ xs)
      moved = omega arith

      by : (b : Bool)
          → first_after_from before test (n + 1) (xs ++ y ∷ [])
          ≡ option_or (first_after_from before test (n + 1) xs) (cond (list_any before xs && test y) (Some (n + 1 + length xs)) None)
          → cond b (position_from test (n + 1) (xs ++ y ∷ [])) (first_after_from before test (n + 1) (xs ++ y ∷ []))
          ≡ option_or (cond b (position_from test (n + 1) xs) (first_after_from before test (n + 1) xs))
          (cond ((b || list_any before xs) && test y) (Some (n + length (x ∷ xs))) None)
      by true rest =
          place-append test (n + 1) xs y ∙ ap (λ m. option_or (position_from test (n + 1) xs) (cond (test y) (Some m) None)) moved
      by false rest =
          rest ∙ ap (λ m. option_or (first_after_from before test (n + 1) xs) (cond (list_any before xs && test y) (Some m) None)) moved

  -- of two tests
  pub after_either : (before p q : E → Bool) (n : ℕ) (xs : List E)
      → lesser (first_after_from before p n xs) (first_after_from before q n xs) ≡ first_after_from before (λ e. p e || q e) n xs
  after_either before p q n [] = refl
  after_either before p q n (x ∷ xs) = by (before x) (after_either before p q (n + 1) xs)
    where
      by : (b : Bool)
          → lesser (first_after_from before p (n + 1) xs) (first_after_from before q (n + 1) xs) ≡ first_after_from before (λ e. p e || q e) (n + 1) xs
          → lesser (cond b (position_from p (n + 1) xs) (first_after_from before p (n + 1) xs)) (cond b (position_from q (n + 1) xs) (first_after_from before q (n + 1) xs))
          ≡ cond b (position_from (λ e. p e || q e) (n + 1) xs) (first_after_from before (λ e. p e || q e) (n + 1) xs)
      by true rest = sym (lesser_from p q (n + 1) xs)
      by false rest = rest

  -- two tests that agree
  pub same_after : (before p q : E → Bool) → ((e : E) → p e ≡ q e) → (n : ℕ) (xs : List E)
      → first_after_from before p n xs ≡ first_after_from before q n xs
  same_after before p q same n xs = λ i. first_after_from before (λ e. same e i) n xs

  -- counted from another number
  shifted_from : (test : E → Bool) (n m : ℕ) (xs : List E) → position_from test (n + m) xs ≡ option_map (λ k. n + k) (position_from test m xs)
  shifted_from test n m [] = refl
  shifted_from test n m (x ∷ xs) = by (test x) (shifted_from test n (m + 1) xs)
    where
      moved : n + m + 1 ≡ n + (m + 1)
      moved = omega arith

      by : (b : Bool) → position_from test (n + (m + 1)) xs ≡ option_map (λ k. n + k) (position_from test (m + 1) xs)
          → cond b (Some (n + m)) (position_from test (n + m + 1) xs) ≡ option_map (λ k. n + k) (cond b (Some m) (position_from test (m + 1) xs))
      by true rest = refl
      by false rest = ap (λ l. position_from test l xs) moved ∙ rest

  shifted : (test : E → Bool) (n : ℕ) (xs : List E) → position_from test n xs ≡ option_map (λ k. n + k) (position_from test 0 xs)
  shifted test n xs =
      let same : n ≡ n + 0 = omega arith in
      ap (λ m. position_from test m xs) same ∙ shifted_from test n 0 xs

  -- after the first that passes the test before
  after_at : (before test : E → Bool) (n : ℕ) (xs : List E) (at : ℕ) → position_from before n xs ≡ Some at
      → (k : ℕ) × (at ≡ n + k) × (first_after_from before test n xs ≡ position_from test (at + 1) (drop (k + 1) xs))
  after_at before test n [] at h = absurd (cc)
  after_at before test n (x ∷ xs) at h = by (before x) h (after_at before test (n + 1) xs at)
    where
      by : (b : Bool) → cond b (Some n) (position_from before (n + 1) xs) ≡ Some at
          → (position_from before (n + 1) xs ≡ Some at
          → (k : ℕ) × (at ≡ n + 1 + k) × (first_after_from before test (n + 1) xs ≡ position_from test (at + 1) (drop (k + 1) xs)))
          → (k : ℕ) × (at ≡ n + k) × (cond b (position_from test (n + 1) xs) (first_after_from before test (n + 1) xs) ≡ position_from test (at + 1) (drop (k + 1) (x ∷ xs)))
      by true here rest =
          let same : n ≡ at = cc in
          (0, omega arith, ap (λ m. position_from test (m + 1) xs) same)
      by false later rest =
          let (k, is, found) = rest later in
          let further : suc (k + 1) ≡ suc k + 1 = omega arith in
          (suc k, omega arith, found ∙ ap (λ m. position_from test (at + 1) (drop m (x ∷ xs))) further)

  pub after_first : (before test : E → Bool) (xs : List E) (at : ℕ) → position before xs ≡ Some at
      → first_after_from before test 0 xs ≡ option_map (λ further. at + 1 + further) (position test (drop (at + 1) xs))
  after_first before test xs at h =
      let (k, is, found) = after_at before test 0 xs at (sym (position_from-zero before xs) ∙ h) in
      let same : k ≡ at = omega arith in
      found ∙ ap (λ m. position_from test (at + 1) (drop (m + 1) xs)) same
      ∙ shifted test (at + 1) (drop (at + 1) xs)
      ∙ ap (option_map (λ further. at + 1 + further)) (sym (position_from-zero test (drop (at + 1) xs)))

  -- an event passes if there is a first one that does
  some_from : (test : E → Bool) (n : ℕ) (xs : List E) → is_some (position_from test n xs) ≡ list_any test xs
  some_from test n [] = refl
  some_from test n (x ∷ xs) = by (test x) (some_from test (n + 1) xs)
    where
      by : (b : Bool) → is_some (position_from test (n + 1) xs) ≡ list_any test xs
          → is_some (cond b (Some n) (position_from test (n + 1) xs)) ≡ (b || list_any test xs)
      by true rest = refl
      by false rest = rest

  pub some_place : (test : E → Bool) (xs : List E) → is_some (position test xs) ≡ list_any test xs
  some_place test xs = ap is_some (position_from-zero test xs) ∙ some_from test 0 xs
