-- The events before the first one that passes a test, and those as far as it.
use Rattle.std.proofs.Common.{◌≡◌, ◌∙◌, ◌<◌, ℕ, ◌+◌, zero, suc, List, [], ◌∷◌, ◌++◌, Bool, true, false, ◌||◌, cond, Option, Some, None, refl, sym, ap, subst, arith, drop, take, slice_get, length}
use Rattle.std.specs.List.{list_any, position, position_from}
use Rattle.std.proofs.lemmas.Iterator.Adapters.{position_from-zero}
use Rattle.plain_house.specs.declared.event.Event.{Event}
use Rattle.house_causes.specs.First.{◌>>=◌, Numbered, first_that}
use Rattle.house_causes.proofs.FirstLemmas.{first_at, slice_get-suc}

-- the item at a place, what is before it and after it
pub record Parts {E : Type 0} (xs : List E) (at : ℕ) : Type 0 where
  pub item : E
  pub stands : slice_get xs at ≡ Some item
  pub whole : xs ≡ take at xs ++ item ∷ drop (at + 1) xs
  pub upto : take (at + 1) xs ≡ take at xs ++ item ∷ []
  pub stands_upto : slice_get (take (at + 1) xs) at ≡ Some item
  pub split : xs ≡ take (at + 1) xs ++ drop (at + 1) xs

-- that item is the first that passes a test, counted from a number
pub record FirstParts {E : Type 0} (test : E → Bool) (n : ℕ) (xs : List E) (at : ℕ) : Type 0 where
  pub parts : Parts xs at
  pub passes : test parts.item ≡ true
  pub none : list_any test (take at xs) ≡ false
  pub first : position_from test n (take (at + 1) xs) ≡ Some (n + at)

module _ {E : Type 0} where
  abbrev parts_here : (x : E) (xs : List E) → Parts (x ∷ xs) 0
  parts_here x xs = record { item = x; stands = refl; whole = refl; upto = refl; stands_upto = refl; split = refl }

  abbrev parts_later : (x : E) (xs : List E) (at : ℕ) → Parts xs at → Parts (x ∷ xs) (suc at)
  parts_later x xs at rest =
      let further : suc (at + 1) ≡ suc at + 1 = omega arith in
      record {
        item = rest.item;
        stands = slice_get-suc x xs at ∙ rest.stands;
        whole = ap (λ (l : List E). x ∷ l) rest.whole ∙ ap (λ n. x ∷ (take at xs ++ rest.item ∷ drop n (x ∷ xs))) further;
        upto = ap (λ n. take n (x ∷ xs)) (sym further) ∙ ap (λ (l : List E). x ∷ l) rest.upto;
        stands_upto = ap (λ n. slice_get (take n (x ∷ xs)) (suc at)) (sym further) ∙ rest.stands_upto;
        split = ap (λ (l : List E). x ∷ l) rest.split ∙ ap (λ n. take n (x ∷ xs) ++ drop n (x ∷ xs)) further;
      }

  pub parts_at : (xs : List E) (at : ℕ) (item : E) → slice_get xs at ≡ Some item → (it : Parts xs at) × (it.item ≡ item)
  parts_at [] at item h = absurd (cc)
  parts_at (x ∷ xs) zero item h = (parts_here x xs, (let same : x ≡ item = cc in same))
  parts_at (x ∷ xs) (suc at) item h =
      let rest = parts_at xs at item (sym (slice_get-suc x xs at) ∙ h) in
      (parts_later x xs at rest.0, rest.1)

  -- further than the item
  pub take_past : (xs : List E) (at k : ℕ) (item : E) → slice_get xs at ≡ Some item → take (at + 1 + k) xs ≡ take at xs ++ item ∷ take k (drop (at + 1) xs)
  take_past [] at k item h = absurd (cc)
  take_past (x ∷ xs) zero k item h =
      let same : x ≡ item = cc in
      let further : 0 + 1 + k ≡ suc k = omega arith in
      ap (λ n. take n (x ∷ xs)) further ∙ ap (λ (y : E). y ∷ take k xs) same
  take_past (x ∷ xs) (suc at) k item h =
      let more : suc at + 1 + k ≡ suc (at + 1 + k) = omega arith in
      let further : suc (at + 1) ≡ suc at + 1 = omega arith in
      ap (λ n. take n (x ∷ xs)) more ∙ ap (λ (l : List E). x ∷ l) (take_past xs at k item (sym (slice_get-suc x xs at) ∙ h))
      ∙ ap (λ n. x ∷ (take at xs ++ item ∷ take k (drop n (x ∷ xs)))) further

  -- the item after a list of this length
  pub at_end : (xs : List E) (item : E) (more : List E) (at : ℕ) → length xs ≡ at → slice_get (xs ++ item ∷ more) at ≡ Some item
  at_end xs item more at h = ap (slice_get (xs ++ item ∷ more)) (sym h) ∙ from xs
    where
      from : (l : List E) → slice_get (l ++ item ∷ more) (length l) ≡ Some item
      from [] = refl
      from (x ∷ l) = slice_get-suc x (l ++ item ∷ more) (length l) ∙ from l

  pub taken_length : (xs : List E) (at : ℕ) (item : E) → slice_get xs at ≡ Some item → length (take at xs) ≡ at
  taken_length [] at item h = absurd (cc)
  taken_length (x ∷ xs) zero item h = refl
  taken_length (x ∷ xs) (suc at) item h = ap suc (taken_length xs at item (sym (slice_get-suc x xs at) ∙ h))

  pub drop_taken : (xs : List E) (n k : ℕ) → drop n (take (n + k) xs) ≡ take k (drop n xs)
  drop_taken xs zero k = let same : 0 + k ≡ k = omega arith in ap (λ m. take m xs) same
  drop_taken [] (suc n) k =
      let more : suc n + k ≡ suc (n + k) = omega arith in
      ap (λ m. drop (suc n) (take m [])) more ∙ sym (none_taken k)
    where
      none_taken : (m : ℕ) → let none : List E = [] in take m none ≡ none
      none_taken zero = refl
      none_taken (suc m) = refl
  drop_taken (x ∷ xs) (suc n) k =
      let more : suc n + k ≡ suc (n + k) = omega arith in
      ap (λ m. drop (suc n) (take m (x ∷ xs))) more ∙ drop_taken xs n k

module _ {E : Type 0} (test : E → Bool) where
  first_from : (n : ℕ) (xs : List E) (m : ℕ) → position_from test n xs ≡ Some m → (k : ℕ) × (m ≡ n + k) × FirstParts test n xs k
  first_from n [] m h = absurd (cc)
  first_from n (x ∷ xs) m h = by (test x) refl h (first_from (n + 1) xs m)
    where
      by : (b : Bool) → test x ≡ b → cond b (Some n) (position_from test (n + 1) xs) ≡ Some m
          → (position_from test (n + 1) xs ≡ Some m → (k : ℕ) × (m ≡ n + 1 + k) × FirstParts test (n + 1) xs k)
          → (k : ℕ) × (m ≡ n + k) × FirstParts test n (x ∷ xs) k
      by true good here rest =
          let same : n ≡ m = cc in
          let counted : n ≡ n + 0 = omega arith in (
            0,
            omega arith,
            record {
              parts = parts_here x xs;
              passes = good;
              none = refl;
              first = ap (λ b. cond b (Some n) None) good ∙ ap (λ (i : ℕ). Some i) counted;
            },
          )
      by false bad later rest =
          let (k, is, it) = rest later in
          let further : suc (k + 1) ≡ suc k + 1 = omega arith in
          let counted : n + 1 + k ≡ n + suc k = omega arith in (
            suc k,
            omega arith,
            record {
              parts = parts_later x xs k it.parts;
              passes = it.passes;
              none = ap (λ b. b || list_any test (take k xs)) bad ∙ it.none;
              first = ap (λ i. position_from test n (take i (x ∷ xs))) (sym further)
                  ∙ ap (λ b. cond b (Some n) (position_from test (n + 1) (take (k + 1) xs))) bad
                  ∙ it.first ∙ ap (λ (i : ℕ). Some i) counted;
            },
          )

  pub first_parts : (xs : List E) (at : ℕ) → position test xs ≡ Some at → FirstParts test 0 xs at
  first_parts xs at h =
      let (k, is, it) = first_from 0 xs at (sym (position_from-zero test xs) ∙ h) in
      let same : k ≡ at = omega arith in
      subst (FirstParts test 0 xs) same it

  pub first_upto : (xs : List E) (at : ℕ) → position test xs ≡ Some at → position test (take (at + 1) xs) ≡ Some at
  first_upto xs at h =
      let counted : 0 + at ≡ at = omega arith in
      position_from-zero test (take (at + 1) xs) ∙ (first_parts xs at h).first ∙ ap (λ (i : ℕ). Some i) counted

  none_from : (n : ℕ) (xs : List E) → list_any test xs ≡ false → position_from test n xs ≡ None
  none_from n [] h = refl
  none_from n (x ∷ xs) h = by (test x) h (none_from (n + 1) xs)
    where
      by : (b : Bool) → (b || list_any test xs) ≡ false → (list_any test xs ≡ false → position_from test (n + 1) xs ≡ None)
          → cond b (Some n) (position_from test (n + 1) xs) ≡ None
      by true any rest = absurd (cc)
      by false none rest = rest none

  pub none_first : (xs : List E) → list_any test xs ≡ false → position test xs ≡ None
  none_first xs h = position_from-zero test xs ∙ none_from 0 xs h

  any_from : (n : ℕ) (xs : List E) (m : ℕ) → position_from test n xs ≡ Some m → list_any test xs ≡ true
  any_from n [] m h = absurd (cc)
  any_from n (x ∷ xs) m h = by (test x) h (any_from (n + 1) xs m)
    where
      by : (b : Bool) → cond b (Some n) (position_from test (n + 1) xs) ≡ Some m → (position_from test (n + 1) xs ≡ Some m → list_any test xs ≡ true)
          → (b || list_any test xs) ≡ true
      by true here rest = refl
      by false later rest = rest later

  pub any_first : (xs : List E) (at : ℕ) → position test xs ≡ Some at → list_any test xs ≡ true
  any_first xs at h = any_from 0 xs at (sym (position_from-zero test xs) ∙ h)

  within_from : (n : ℕ) (xs : List E) (at : ℕ) → position_from test n xs ≡ Some at
      → (k : ℕ) × (at ≡ n + k) × ((m : ℕ) → k < m → position_from test n (take m xs) ≡ Some at)
  within_from n [] at h = absurd (cc)
  within_from n (x ∷ xs) at h = by (test x) refl h (within_from (n + 1) xs at)
    where
      here : test x ≡ true → n ≡ at → (m : ℕ) → 0 < m → position_from test n (take m (x ∷ xs)) ≡ Some at
      here good same zero less = absurd (omega (arith, less))
      here good same (suc m) less = ap (λ b. cond b (Some n) (position_from test (n + 1) (take m xs))) good ∙ ap (λ (i : ℕ). Some i) same

      later : test x ≡ false → (k : ℕ) → ((m : ℕ) → k < m → position_from test (n + 1) (take m xs) ≡ Some at) → (m : ℕ) → suc k < m
          → position_from test n (take m (x ∷ xs)) ≡ Some at
      later bad k rest zero less = absurd (omega (arith, less))
      later bad k rest (suc m) less =
          ap (λ b. cond b (Some n) (position_from test (n + 1) (take m xs))) bad ∙ rest m (omega (arith, less))

      by : (b : Bool) → test x ≡ b → cond b (Some n) (position_from test (n + 1) xs) ≡ Some at
          → (position_from test (n + 1) xs ≡ Some at → (k : ℕ) × (at ≡ n + 1 + k) × ((m : ℕ) → k < m → position_from test (n + 1) (take m xs) ≡ Some at))
          → (k : ℕ) × (at ≡ n + k) × ((m : ℕ) → k < m → position_from test n (take m (x ∷ xs)) ≡ Some at)
      by true good is rest = let same : n ≡ at = cc in (0, omega arith, here good same)
      by false bad is rest = let (k, counted, kept) = rest is in (suc k, omega arith, later bad k kept)

  -- more events than as far as the first that passes
  pub first_within : (xs : List E) (at m : ℕ) → position test xs ≡ Some at → at < m → position test (take m xs) ≡ Some at
  first_within xs at m h less =
      let (k, is, kept) = within_from 0 xs at (sym (position_from-zero test xs) ∙ h) in
      position_from-zero test (take m xs) ∙ kept m (omega (arith, is, less))

-- ---- of events

module _ (test : Event → Bool) (events : List Event) where
  abbrev at_place : List Event → Option ℕ → Option Numbered
  at_place events place = place >>= λ at. slice_get events at >>= λ event. Some (record { at = at; event = event })

  pub no_first : position test events ≡ None → first_that test events ≡ None
  no_first h = ap (at_place events) h

  -- no event before it passes
  pub first_before : (at : ℕ) → position test events ≡ Some at → first_that test (take at events) ≡ None
  first_before at h = ap (at_place (take at events)) (none_first test (take at events) (first_parts test events at h).none)

  -- as far as it, it is the first
  pub same_first : (at : ℕ) → position test events ≡ Some at → first_that test (take (at + 1) events) ≡ first_that test events
  same_first at h =
      let it = (first_parts test events at h).parts in
      first_at test (take (at + 1) events) at it.item (first_upto test events at h) it.stands_upto
      ∙ sym (first_at test events at it.item h it.stands)
