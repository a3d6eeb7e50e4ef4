-- The number of a party among those configured.
use Rattle.std.proofs.Common.{◌≡◌, ℕ, ◌+◌, suc, List, [], ◌∷◌, Bool, true, false, not, ◌||◌, cond, arith, refl, sym, ap, ap₂, ◌∙◌, Option, None, Some, unwrap_or, option_map, is_some, find, map, length, position, slice_get, slice_set, ltb, ltb-false}
use Rattle.std.specs.List.{list_any, position_or_len}
use Rattle.std.proofs.lemmas.List.Folds.{find_at}
use Rattle.std.proofs.lemmas.List.Sums.{prefix_len-le-length}
use Rattle.std.proofs.lemmas.Option.{slice_get-map}
use Rattle.ocpi_types.specs.declared.party.Party.{Party}
use Rattle.ocpi_types.specs.Different.{all_different}
use Rattle.ocpi_types.specs.Party.{same_party}
use Rattle.period_order.proofs.PartyLemmas.{both_are, party_along, party_symmetric}

-- the first place, or the length where there is none
pub first_place : {X : Type 0} (p : X → Bool) (xs : List X) → unwrap_or (position p xs) (length xs) ≡ position_or_len p xs
first_place p xs = by (ltb (position_or_len p xs) (length xs)) refl
  where
    by : (b : Bool) → ltb (position_or_len p xs) (length xs) ≡ b → unwrap_or (cond b (Some (position_or_len p xs)) None) (length xs) ≡ position_or_len p xs
    by true e = refl
    by false e = omega (arith, ltb-false (position_or_len p xs) (length xs) e, prefix_len-le-length (λ x. not (p x)) xs)

find_passes : {X : Type 0} (p : X → Bool) (xs : List X) (found : X) → find p xs ≡ Some found → p found ≡ true
find_passes p [] found e = absurd (cc)
find_passes {X} p (x ∷ xs) found e = by (p x) refl (find_passes p xs found) e
  where
    by : (b : Bool) → p x ≡ b → (find p xs ≡ Some found → p found ≡ true) → cond b (Some x) (find p xs) ≡ Some found → p found ≡ true
    by true f later e = let same : x ≡ found = cc in ap p (sym same) ∙ f
    by false f later e = later e

-- it is that party
abbrev is_named : {X : Type 0} → (X → Party) → Party → X → Bool
is_named party_of party x = same_party (party_of x) party

-- its number from 0, or how many there are
abbrev number : {X : Type 0} → (X → Party) → Party → List X → ℕ
number party_of party xs = unwrap_or (position (is_named party_of party) xs) (length xs)

module _ {X Y : Type 0} (party_of : X → Party) (party : Party) where
  -- what is said of each, said of one that is configured
  pub at_number : (f : Party → Y) → ((p : Party) → same_party p party ≡ true → f p ≡ f party) → (xs : List X) → is_some (find (is_named party_of party) xs) ≡ true
      → slice_get (map (λ x. f (party_of x)) xs) (number party_of party xs) ≡ Some (f party)
  at_number f same xs known = by (find (is_named party_of party) xs) refl known
    where
      by : (found : Option X) → find (is_named party_of party) xs ≡ found → is_some found ≡ true → slice_get (map (λ x. f (party_of x)) xs) (number party_of party xs) ≡ Some (f party)
      by None e h = absurd (cc)
      by (Some x) e h =
          ap (slice_get (map (λ x. f (party_of x)) xs)) (first_place (is_named party_of party) xs)
          ∙ slice_get-map (λ x. f (party_of x)) xs (position_or_len (is_named party_of party) xs)
          ∙ ap (option_map (λ x. f (party_of x))) (sym (find_at (is_named party_of party) xs) ∙ e)
          ∙ ap Some (same (party_of x) (find_passes (is_named party_of party) xs x e))

  -- what is said of each, where it changes for that party alone
  module _ (f g : Party → Y) (same : (p : Party) → same_party p party ≡ true → g p ≡ g party) (other : (p : Party) → same_party p party ≡ false → g p ≡ f p) where
    abbrev is_alike : X → X → Bool
    is_alike a b = same_party (party_of a) (party_of b)

    abbrev before : List X → List Y
    before xs = map (λ x. f (party_of x)) xs

    abbrev after : List X → List Y
    after xs = map (λ x. g (party_of x)) xs

    neither : (a b : Bool) → (a || b) ≡ false → (a ≡ false) × (b ≡ false)
    neither true b h = absurd (cc)
    neither false b h = (refl, h)

    no_other : (x : X) (xs : List X) → is_named party_of party x ≡ true → list_any (is_alike x) xs ≡ false → after xs ≡ before xs
    no_other x [] e none = refl
    no_other x (y ∷ xs) e none =
        let parts = neither (is_alike x y) (list_any (is_alike x) xs) none in
        let differs : is_named party_of party y ≡ false = sym (party_along (party_of y) (party_of x) party e) ∙ party_symmetric (party_of y) (party_of x) ∙ parts.0 in
        ap₂ (λ (z : Y) (l : List Y). z ∷ l) (other (party_of y) differs) (no_other x xs e parts.1)

    no : (b : Bool) → not b ≡ true → b ≡ false
    no true h = absurd (cc)
    no false h = refl

    set_at : (xs : List X) → all_different is_alike xs ≡ true → after xs ≡ slice_set (before xs) (position_or_len (is_named party_of party) xs) (g party)
    set_at [] different = refl
    set_at (x ∷ xs) different = by (is_named party_of party x) refl (set_at xs parts.1)
      where
        parts : (not (list_any (is_alike x) xs) ≡ true) × (all_different is_alike xs ≡ true)
        parts = both_are (not (list_any (is_alike x) xs)) (all_different is_alike xs) different

        by : (b : Bool) → is_named party_of party x ≡ b → after xs ≡ slice_set (before xs) (position_or_len (is_named party_of party) xs) (g party)
            → g (party_of x) ∷ after xs ≡ slice_set (f (party_of x) ∷ before xs) (cond (not b) (1 + position_or_len (is_named party_of party) xs) 0) (g party)
        by true e rest = ap₂ (λ (z : Y) (l : List Y). z ∷ l) (same (party_of x) e) (no_other x xs e (no (list_any (is_alike x) xs) parts.0))
        by false e rest =
            let next : suc (position_or_len (is_named party_of party) xs) ≡ 1 + position_or_len (is_named party_of party) xs = omega arith in
            ap₂ (λ (z : Y) (l : List Y). z ∷ l) (other (party_of x) e) rest
            ∙ ap (λ n. slice_set (f (party_of x) ∷ before xs) n (g party)) next

    pub set_at_number : (xs : List X) → all_different is_alike xs ≡ true → after xs ≡ slice_set (before xs) (number party_of party xs) (g party)
    set_at_number xs different = set_at xs different ∙ ap (λ n. slice_set (before xs) n (g party)) (sym (first_place (is_named party_of party) xs))
