-- A list in which at most one item passes a test, without the items of a narrower test.
use Rattle.std.proofs.Common.{◌≡◌, ◌≤◌, ℕ, ◌+◌, List, [], ◌∷◌, Bool, true, false, not, ◌&&◌, cond, None, Some, filter, find, sum_by, count_by, refl, sym, ap, ◌∙◌, arith}
use Rattle.std.proofs.lemmas.List.Sums.{sum_by-cons}
use Rattle.std.proofs.lemmas.Map.Entries.{option_filter}

first_true : (a b : Bool) → (a && b) ≡ true → a ≡ true
first_true true b h = refl
first_true false b h = absurd (Prim.cc)

module _ {X : Type 0} where
  -- one item more
  count-cons : (p : X → Bool) (x : X) (xs : List X) → count_by p (x ∷ xs) ≡ cond {A = ℕ} (p x) 1 0 + count_by p xs
  count-cons p x xs = sum_by-cons (λ y. cond (p y) 1 0) x xs

  count-yes : (p : X → Bool) (x : X) (xs : List X) → p x ≡ true → count_by p (x ∷ xs) ≡ 1 + count_by p xs
  count-yes p x xs e = count-cons p x xs ∙ ap (λ b. cond {A = ℕ} b 1 0 + count_by p xs) e

  count-no : (p : X → Bool) (x : X) (xs : List X) → p x ≡ false → count_by p (x ∷ xs) ≡ count_by p xs
  count-no p x xs e = count-cons p x xs ∙ ap (λ b. cond {A = ℕ} b 1 0 + count_by p xs) e ∙ omega arith

  find-yes : (p : X → Bool) (x : X) (xs : List X) → p x ≡ true → find p (x ∷ xs) ≡ Some x
  find-yes p x xs e = ap (λ b. cond b (Some x) (find p xs)) e

  find-no : (p : X → Bool) (x : X) (xs : List X) → p x ≡ false → find p (x ∷ xs) ≡ find p xs
  find-no p x xs e = ap (λ b. cond b (Some x) (find p xs)) e

  filter-yes : (p : X → Bool) (x : X) (xs : List X) → p x ≡ true → filter p (x ∷ xs) ≡ x ∷ filter p xs
  filter-yes p x xs e = ap (λ b. cond b (x ∷ filter p xs) (filter p xs)) e

  filter-no : (p : X → Bool) (x : X) (xs : List X) → p x ≡ false → filter p (x ∷ xs) ≡ filter p xs
  filter-no p x xs e = ap (λ b. cond b (x ∷ filter p xs) (filter p xs)) e

  -- where none is found, none passes
  pub count-none : (p : X → Bool) (xs : List X) → find p xs ≡ None → count_by p xs ≡ 0
  count-none p [] none = refl
  count-none p (x ∷ xs) none = by (p x) refl (count-none p xs)
    where
      by : (b : Bool) → p x ≡ b → (find p xs ≡ None → count_by p xs ≡ 0) → count_by p (x ∷ xs) ≡ 0
      by true e rest = absurd (let no : Some x ≡ None = sym (find-yes p x xs e) ∙ none in Prim.cc)
      by false e rest = count-no p x xs e ∙ rest (sym (find-no p x xs e) ∙ none)

  pub find-none : (p : X → Bool) (xs : List X) → count_by p xs ≡ 0 → find p xs ≡ None
  find-none p [] none = refl
  find-none p (x ∷ xs) none = by (p x) refl (find-none p xs)
    where
      by : (b : Bool) → p x ≡ b → (count_by p xs ≡ 0 → find p xs ≡ None) → find p (x ∷ xs) ≡ None
      by true e rest = absurd (omega (arith, count-yes p x xs e))
      by false e rest = find-no p x xs e ∙ rest (sym (count-no p x xs e) ∙ none)

  pub found_passes : (p : X → Bool) (xs : List X) (x : X) → find p xs ≡ Some x → p x ≡ true
  found_passes p [] x found = absurd (cc)
  found_passes p (y ∷ ys) x found = by (p y) refl (found_passes p ys x)
    where
      by : (b : Bool) → p y ≡ b → (find p ys ≡ Some x → p x ≡ true) → p x ≡ true
      by true e rest = let same : Some y ≡ Some x = sym (find-yes p y ys e) ∙ found in let it : y ≡ x = cc in sym (ap p it) ∙ e
      by false e rest = rest (sym (find-no p y ys e) ∙ found)

  -- a filter leaves no more of them
  pub count-filter : (p q : X → Bool) (xs : List X) → count_by p (filter q xs) ≤ count_by p xs
  count-filter p q [] = omega arith
  count-filter p q (x ∷ xs) = by (q x) refl (count-filter p q xs)
    where
      by : (b : Bool) → q x ≡ b → count_by p (filter q xs) ≤ count_by p xs → count_by p (filter q (x ∷ xs)) ≤ count_by p (x ∷ xs)
      by true e rest = omega (arith, ap (count_by p) (filter-yes q x xs e), count-cons p x (filter q xs), count-cons p x xs, rest)
      by false e rest = omega (arith, ap (count_by p) (filter-no q x xs e), count-cons p x xs, rest)

  -- none passes: nothing is filtered out
  pub filter-none : (p : X → Bool) (xs : List X) → find p xs ≡ None → filter (λ x. not (p x)) xs ≡ xs
  filter-none p [] none = refl
  filter-none p (x ∷ xs) none = by (p x) refl (filter-none p xs)
    where
      by : (b : Bool) → p x ≡ b → (find p xs ≡ None → filter (λ y. not (p y)) xs ≡ xs) → filter (λ y. not (p y)) (x ∷ xs) ≡ x ∷ xs
      by true e rest = absurd (let no : Some x ≡ None = sym (find-yes p x xs e) ∙ none in Prim.cc)
      by false e rest = filter-yes (λ y. not (p y)) x xs (ap not e) ∙ ap (λ l. x ∷ l) (rest (sym (find-no p x xs e) ∙ none))

  -- what is found is part of a sum
  pub found_in_sum : (p : X → Bool) (f : X → ℕ) (w : X → Bool) (xs : List X) (x : X) → find p xs ≡ Some x → w x ≡ true → f x ≤ sum_by f (filter w xs)
  found_in_sum p f w [] x found within = absurd (cc)
  found_in_sum p f w (y ∷ ys) x found within = by (p y) refl (w y) refl (λ e. found_in_sum p f w ys x e within)
    where
      by : (b : Bool) → p y ≡ b → (c : Bool) → w y ≡ c → (find p ys ≡ Some x → f x ≤ sum_by f (filter w ys)) → f x ≤ sum_by f (filter w (y ∷ ys))
      by true e c d rest =
          let same : Some y ≡ Some x = sym (find-yes p y ys e) ∙ found in
          let it : y ≡ x = cc in
          omega (arith, ap (sum_by f) (filter-yes w y ys (ap w it ∙ within)), sum_by-cons f y (filter w ys), ap f it)
      by false e true d rest = omega (arith, ap (sum_by f) (filter-yes w y ys d), sum_by-cons f y (filter w ys), rest (sym (find-no p y ys e) ∙ found))
      by false e false d rest = omega (arith, ap (sum_by f) (filter-no w y ys d), rest (sym (find-no p y ys e) ∙ found))

  -- a test that passes none of those taken out
  pub find-apart : (p q : X → Bool) → ((x : X) → q x ≡ true → p x ≡ false) → (xs : List X) → find q (filter (λ x. not (p x)) xs) ≡ find q xs
  find-apart p q apart [] = refl
  find-apart p q apart (x ∷ xs) = by (p x) refl (q x) refl (find-apart p q apart xs)
    where
      by : (b : Bool) → p x ≡ b → (c : Bool) → q x ≡ c → find q (filter (λ y. not (p y)) xs) ≡ find q xs → find q (filter (λ y. not (p y)) (x ∷ xs)) ≡ find q (x ∷ xs)
      by true e true d h = absurd (let no : true ≡ false = sym e ∙ apart x d in Prim.cc)
      by true e false d h = ap (find q) (filter-no (λ y. not (p y)) x xs (ap not e)) ∙ h ∙ sym (find-no q x xs d)
      by false e true d h = ap (find q) (filter-yes (λ y. not (p y)) x xs (ap not e)) ∙ find-yes q x (filter (λ y. not (p y)) xs) d ∙ sym (find-yes q x xs d)
      by false e false d h = ap (find q) (filter-yes (λ y. not (p y)) x xs (ap not e)) ∙ find-no q x (filter (λ y. not (p y)) xs) d ∙ h ∙ sym (find-no q x xs d)

  module _ (wide p : X → Bool) (narrow : (x : X) → p x ≡ true → wide x ≡ true) where
    pub fewer : (xs : List X) → count_by p xs ≤ count_by wide xs
    fewer [] = omega arith
    fewer (x ∷ xs) = by (p x) refl (wide x) refl (fewer xs)
      where
        by : (b : Bool) → p x ≡ b → (c : Bool) → wide x ≡ c → count_by p xs ≤ count_by wide xs → count_by p (x ∷ xs) ≤ count_by wide (x ∷ xs)
        by true e c d rest = omega (arith, count-yes p x xs e, count-yes wide x xs (narrow x e), rest)
        by false e true d rest = omega (arith, count-no p x xs e, count-yes wide x xs d, rest)
        by false e false d rest = omega (arith, count-no p x xs e, count-no wide x xs d, rest)

    -- the one that passes the wide test is taken out
    pub none_left : (xs : List X) (x : X) → count_by wide xs ≤ 1 → find p xs ≡ Some x → find wide (filter (λ y. not (p y)) xs) ≡ None
    none_left [] x one found = absurd (cc)
    none_left (y ∷ ys) x one found = by (p y) refl (wide y) refl (none_left ys x)
      where
        by : (b : Bool) → p y ≡ b → (c : Bool) → wide y ≡ c
            → (count_by wide ys ≤ 1 → find p ys ≡ Some x → find wide (filter (λ z. not (p z)) ys) ≡ None)
            → find wide (filter (λ z. not (p z)) (y ∷ ys)) ≡ None
        by true e c d rest =
            let none : count_by wide ys ≡ 0 = omega (arith, count-yes wide y ys (narrow y e), one) in
            ap (find wide) (filter-no (λ z. not (p z)) y ys (ap not e))
            ∙ find-none wide (filter (λ z. not (p z)) ys) (omega (arith, count-filter wide (λ z. not (p z)) ys, none))
        by false e true d rest =
            let there : find p ys ≡ Some x = sym (find-no p y ys e) ∙ found in
            let none : count_by wide ys ≡ 0 = omega (arith, count-yes wide y ys d, one) in
            let missed : find p ys ≡ None = find-none p ys (omega (arith, fewer ys, none)) in
            absurd (let no : Some x ≡ None = sym there ∙ missed in Prim.cc)
        by false e false d rest =
            ap (find wide) (filter-yes (λ z. not (p z)) y ys (ap not e))
            ∙ find-no wide y (filter (λ z. not (p z)) ys) d
            ∙ rest (omega (arith, count-no wide y ys d, one)) (sym (find-no p y ys e) ∙ found)

  -- a sum without the one that is taken out
  pub sum_without : (p : X → Bool) (f : X → ℕ) (w : X → Bool) (xs : List X) (x : X) → count_by p xs ≤ 1 → find p xs ≡ Some x
      → sum_by f (filter w xs) ≡ sum_by f (filter w (filter (λ y. not (p y)) xs)) + cond {A = ℕ} (w x) (f x) 0
  sum_without p f w [] x one found = absurd (cc)
  sum_without p f w (y ∷ ys) x one found = by (p y) refl (w y) refl (sum_without p f w ys x)
    where
      by : (b : Bool) → p y ≡ b → (c : Bool) → w y ≡ c
          → (count_by p ys ≤ 1 → find p ys ≡ Some x → sum_by f (filter w ys) ≡ sum_by f (filter w (filter (λ z. not (p z)) ys)) + cond {A = ℕ} (w x) (f x) 0)
          → sum_by f (filter w (y ∷ ys)) ≡ sum_by f (filter w (filter (λ z. not (p z)) (y ∷ ys))) + cond {A = ℕ} (w x) (f x) 0
      by true e true d rest =
          let same : Some y ≡ Some x = sym (find-yes p y ys e) ∙ found in
          let it : y ≡ x = cc in
          let none : count_by p ys ≡ 0 = omega (arith, count-yes p y ys e, one) in
          let gone : filter (λ z. not (p z)) (y ∷ ys) ≡ ys = filter-no (λ z. not (p z)) y ys (ap not e) ∙ filter-none p ys (find-none p ys none) in
          let weigh : cond {A = ℕ} (w x) (f x) 0 ≡ f y = ap (λ (z : X). cond {A = ℕ} (w z) (f z) 0) (sym it) ∙ ap (λ b. cond {A = ℕ} b (f y) 0) d in
          omega (arith, ap (sum_by f) (filter-yes w y ys d), sum_by-cons f y (filter w ys), ap (λ l. sum_by f (filter w l)) gone, weigh)
      by true e false d rest =
          let same : Some y ≡ Some x = sym (find-yes p y ys e) ∙ found in
          let it : y ≡ x = cc in
          let none : count_by p ys ≡ 0 = omega (arith, count-yes p y ys e, one) in
          let gone : filter (λ z. not (p z)) (y ∷ ys) ≡ ys = filter-no (λ z. not (p z)) y ys (ap not e) ∙ filter-none p ys (find-none p ys none) in
          let weigh : cond {A = ℕ} (w x) (f x) 0 ≡ 0 = ap (λ (z : X). cond {A = ℕ} (w z) (f z) 0) (sym it) ∙ ap (λ b. cond {A = ℕ} b (f y) 0) d in
          omega (arith, ap (sum_by f) (filter-no w y ys d), ap (λ l. sum_by f (filter w l)) gone, weigh)
      by false e true d rest =
          let more = rest (omega (arith, count-no p y ys e, one)) (sym (find-no p y ys e) ∙ found) in
          let kept : filter (λ z. not (p z)) (y ∷ ys) ≡ y ∷ filter (λ z. not (p z)) ys = filter-yes (λ z. not (p z)) y ys (ap not e) in
          omega (
            arith,
            ap (sum_by f) (filter-yes w y ys d),
            sum_by-cons f y (filter w ys),
            ap (λ l. sum_by f (filter w l)) kept,
            ap (sum_by f) (filter-yes w y (filter (λ z. not (p z)) ys) d),
            sum_by-cons f y (filter w (filter (λ z. not (p z)) ys)),
            more,
          )
      by false e false d rest =
          let more = rest (omega (arith, count-no p y ys e, one)) (sym (find-no p y ys e) ∙ found) in
          let kept : filter (λ z. not (p z)) (y ∷ ys) ≡ y ∷ filter (λ z. not (p z)) ys = filter-yes (λ z. not (p z)) y ys (ap not e) in
          omega (
            arith,
            ap (sum_by f) (filter-no w y ys d),
            ap (λ l. sum_by f (filter w l)) kept,
            ap (sum_by f) (filter-no w y (filter (λ z. not (p z)) ys) d),
            more,
          )

  -- what the narrower test finds is what the wider one finds, if it passes
  pub find-narrow : (wide q : X → Bool) (xs : List X) → count_by wide xs ≤ 1 → find (λ x. wide x && q x) xs ≡ option_filter q (find wide xs)
  find-narrow wide q [] one = refl
  find-narrow wide q (x ∷ xs) one = by (wide x) refl (q x) refl (find-narrow wide q xs)
    where
      by : (b : Bool) → wide x ≡ b → (c : Bool) → q x ≡ c → (count_by wide xs ≤ 1 → find (λ y. wide y && q y) xs ≡ option_filter q (find wide xs))
          → find (λ y. wide y && q y) (x ∷ xs) ≡ option_filter q (find wide (x ∷ xs))
      by true e true d rest =
          find-yes (λ y. wide y && q y) x xs (λ i. e i && d i) ∙ sym (ap (option_filter q) (find-yes wide x xs e) ∙ ap (λ b. cond b (Some x) None) d)
      by true e false d rest =
          let none : count_by wide xs ≡ 0 = omega (arith, count-yes wide x xs e, one) in
          find-no (λ y. wide y && q y) x xs (λ i. e i && d i)
          ∙ find-none (λ y. wide y && q y) xs (omega (arith, fewer wide (λ y. wide y && q y) (λ y h. first_true (wide y) (q y) h) xs, none))
          ∙ sym (ap (option_filter q) (find-yes wide x xs e) ∙ ap (λ b. cond b (Some x) None) d)
      by false e c d rest =
          find-no (λ y. wide y && q y) x xs (ap (λ b. b && q x) e)
          ∙ rest (omega (arith, count-no wide x xs e, one))
          ∙ sym (ap (option_filter q) (find-no wide x xs e))
