-- The first item that passes a test is in the list and passes it, and there is one if any item passes.
use Rattle.std.proofs.Common.{◌≡◌, ◌∙◌, ℕ, ◌+◌, suc, List, [], ◌∷◌, Bool, true, false, ◌||◌, zero, cond, Option, Some, None, refl, sym, ap, subst, slice_get, is_some, drop, option_map, rules, arith}
use Rattle.std.specs.List.{list_any, position, position_from}
use Rattle.std.proofs.lemmas.Iterator.Adapters.{position_from-zero}
use Rattle.plain_house.specs.declared.event.Event.{Event}
use Rattle.known_events.specs.After.{position_after}
use Rattle.house_causes.specs.First.{◌>>=◌, Numbered, first_after, first_that}

-- what is found of what was found is there if both are
pub found_then : {A B : Type 0} (o : Option A) (f : A → Option B) → is_some o ≡ true → ((x : A) → o ≡ Some x → is_some (f x) ≡ true) → is_some (o >>= f) ≡ true
found_then None f given each = given
found_then (Some x) f given each = each x refl

pub is_there : {A : Type 0} (o : Option A) (x : A) → o ≡ Some x → is_some o ≡ true
is_there o x is = ap is_some is

pub slice_get-suc : {E : Type 0} (x : E) (xs : List E) (i : ℕ) → slice_get (x ∷ xs) (suc i) ≡ slice_get xs i
slice_get-suc x xs i = search rules

-- ---- items

-- the item at a place passes the test
pub record PassesAt {E : Type 0} (test : E → Bool) (xs : List E) (at : ℕ) : Type 0 where
  pub item : E
  pub stands : slice_get xs at ≡ Some item
  pub passes : test item ≡ true

module _ {E : Type 0} (test : E → Bool) where
  passes_from : (n : ℕ) (xs : List E) (m : ℕ) → position_from test n xs ≡ Some m → (k : ℕ) × (m ≡ n + k) × PassesAt test xs k
  passes_from n [] m h = absurd (cc)
  passes_from n (x ∷ xs) m h = by (test x) refl h (passes_from (n + 1) xs m)
    where
      by : (b : Bool) → test x ≡ b → cond b (Some n) (position_from test (n + 1) xs) ≡ Some m
          → (position_from test (n + 1) xs ≡ Some m → (k : ℕ) × (m ≡ n + 1 + k) × PassesAt test xs k)
          → (k : ℕ) × (m ≡ n + k) × PassesAt test (x ∷ xs) k
      by true good here rest =
          let same : n ≡ m = cc in
          (0, omega arith, record { item = x; stands = refl; passes = good })
      by false bad later rest =
          let (k, is, it) = rest later in
          (suc k, omega arith, record { item = it.item; stands = slice_get-suc x xs k ∙ it.stands; passes = it.passes })

  pub passes_at : (xs : List E) (at : ℕ) → position test xs ≡ Some at → PassesAt test xs at
  passes_at xs at h =
      let (k, is, it) = passes_from 0 xs at (sym (position_from-zero test xs) ∙ h) in
      let same : k ≡ at = omega arith in
      subst (PassesAt test xs) same it

  some_from : (n : ℕ) (xs : List E) → list_any test xs ≡ true → is_some (position_from test n xs) ≡ true
  some_from n [] h = h
  some_from n (x ∷ xs) h = by (test x) h (some_from (n + 1) xs)
    where
      by : (b : Bool) → (b || list_any test xs) ≡ true → (list_any test xs ≡ true → is_some (position_from test (n + 1) xs) ≡ true)
          → is_some (cond b (Some n) (position_from test (n + 1) xs)) ≡ true
      by true any rest = refl
      by false any rest = rest any

  pub has_place : (xs : List E) → list_any test xs ≡ true → is_some (position test xs) ≡ true
  has_place xs h = ap is_some (position_from-zero test xs) ∙ some_from 0 xs h

pub slice_get-drop : {E : Type 0} (n : ℕ) (xs : List E) (k : ℕ) → slice_get (drop n xs) k ≡ slice_get xs (n + k)
slice_get-drop zero xs k = let same : k ≡ 0 + k = omega arith in ap (slice_get xs) same
slice_get-drop (suc n) [] k = refl
slice_get-drop (suc n) (x ∷ xs) k =
    let further : suc (n + k) ≡ suc n + k = omega arith in
    slice_get-drop n xs k ∙ sym (slice_get-suc x xs (n + k)) ∙ ap (slice_get (x ∷ xs)) further

-- ---- events

-- a found event is at its number and passes the test
pub record IsFound (test : Event → Bool) (events : List Event) (it : Numbered) : Type 0 where
  pub stands : slice_get events it.at ≡ Some it.event
  pub passes : test it.event ≡ true

module _ (test : Event → Bool) (events : List Event) where
  pub is_found : (it : Numbered) → first_that test events ≡ Some it → IsFound test events it
  is_found it h = at_place (position test events) refl h
    where
      at_place : (place : Option ℕ) → position test events ≡ place
          → (place >>= λ at. slice_get events at >>= λ event. Some (record { at = at; event = event })) ≡ Some it → IsFound test events it
      at_place None is here = absurd (cc)
      at_place (Some at) is here =
          let there = passes_at test events at is in
          let one : Numbered = record { at = at; event = there.item } in
          let same : Some one ≡ Some it = sym (ap (λ (o : Option Event). o >>= λ event. Some (record { at = at; event = event })) there.stands) ∙ here in
          let found : IsFound test events one = record { stands = there.stands; passes = there.passes } in
          let equal : one ≡ it = cc in
          subst (IsFound test events) equal found

  pub has_first : list_any test events ≡ true → is_some (first_that test events) ≡ true
  has_first any =
      found_then (position test events) (λ at. slice_get events at >>= λ event. Some (record { at = at; event = event }))
      (has_place test events any) (λ at is.
      let there = passes_at test events at is in
      found_then (slice_get events at) (λ event. Some (record { at = at; event = event })) (is_there (slice_get events at) there.item there.stands) (λ event is_event. refl))

  pub first_at : (at : ℕ) (e : Event) → position test events ≡ Some at → slice_get events at ≡ Some e → first_that test events ≡ Some (record { at = at; event = e })
  first_at at e is stands =
      ap (λ (o : Option ℕ). o >>= λ n. slice_get events n >>= λ event. Some (record { at = n; event = event })) is
      ∙ ap (λ (o : Option Event). o >>= λ event. Some (record { at = at; event = event })) stands

  -- ---- events after one of a number

  module _ (number : ℕ) where
    later_passes : (m : ℕ) → position_after test number events ≡ Some m → PassesAt test events m
    later_passes m h = by (position test (drop (number + 1) events)) refl h
      where
        by : (place : Option ℕ) → position test (drop (number + 1) events) ≡ place → option_map (λ k. number + 1 + k) place ≡ Some m → PassesAt test events m
        by None is here = absurd (cc)
        by (Some k) is here =
            let there = passes_at test (drop (number + 1) events) k is in
            let same : number + 1 + k ≡ m = cc in
            subst (PassesAt test events) same (record {
              item = there.item;
              stands = sym (slice_get-drop (number + 1) events k) ∙ there.stands;
              passes = there.passes;
            })

    pub is_found_after : (it : Numbered) → first_after number test events ≡ Some it → IsFound test events it
    is_found_after it h = at_place (position_after test number events) refl h
      where
        at_place : (place : Option ℕ) → position_after test number events ≡ place
            → (place >>= λ at. slice_get events at >>= λ event. Some (record { at = at; event = event })) ≡ Some it → IsFound test events it
        at_place None is here = absurd (cc)
        at_place (Some at) is here =
            let there = later_passes at is in
            let one : Numbered = record { at = at; event = there.item } in
            let same : Some one ≡ Some it = sym (ap (λ (o : Option Event). o >>= λ event. Some (record { at = at; event = event })) there.stands) ∙ here in
            let found : IsFound test events one = record { stands = there.stands; passes = there.passes } in
            let equal : one ≡ it = cc in
            subst (IsFound test events) equal found

    has_later : list_any test (drop (number + 1) events) ≡ true → is_some (position_after test number events) ≡ true
    has_later any = by (position test (drop (number + 1) events)) (has_place test (drop (number + 1) events) any)
      where
        by : (place : Option ℕ) → is_some place ≡ true → is_some (option_map (λ k. number + 1 + k) place) ≡ true
        by None h = absurd (cc)
        by (Some k) h = refl

    pub has_first_after : list_any test (drop (number + 1) events) ≡ true → is_some (first_after number test events) ≡ true
    has_first_after any =
        found_then (position_after test number events) (λ at. slice_get events at >>= λ event. Some (record { at = at; event = event }))
        (has_later any) (λ at is.
        let there = later_passes at is in
        found_then (slice_get events at) (λ event. Some (record { at = at; event = event })) (is_there (slice_get events at) there.item there.stands) (λ event is_event. refl))
