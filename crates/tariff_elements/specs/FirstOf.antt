-- The first of a list of which there is something to say, by its number.
use Rattle.std.specs.Prelude.{◌≡◌, ℕ, ◌+◌, true, List, [], ◌∷◌, take, slice_get, Option, Some, None, is_none, option_and_then}
use Rattle.std.specs.List.{list_all}

abbrev pub or_later : {Y : Type 0} → ℕ → Option Y → Option (ℕ × Y) → Option (ℕ × Y)
or_later number (Some y) later = Some (number, y)
or_later number None later = later

-- the same of a list whose first has the number that is given
abbrev pub first_from : {X Y : Type 0} → (X → Option Y) → ℕ → List X → Option (ℕ × Y)
first_from say number [] = None
first_from say number (x ∷ xs) = or_later number (say x) (first_from say (number + 1) xs)

-- the number, from 0, of the first of which there is something to say, and that
abbrev pub first_of : {X Y : Type 0} → (X → Option Y) → List X → Option (ℕ × Y)
first_of say xs = first_from say 0 xs

-- it is the first: there is this to say of the one with that number, and nothing of one in front of it; or nothing of any
abbrev pub IsFirstOf : {X Y : Type 0} → (X → Option Y) → List X → Option (ℕ × Y) → Type 0
IsFirstOf say xs None = list_all (λ x. is_none (say x)) xs ≡ true
IsFirstOf say xs (Some found) =
    (option_and_then say (slice_get xs found.0) ≡ Some found.1) × (list_all (λ x. is_none (say x)) (take found.0 xs) ≡ true)
