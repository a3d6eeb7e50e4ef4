-- The number of a configured operator or provider is below how many there are.
use Rattle.std.proofs.Common.{◌≡◌, ◌<◌, List, Bool, true, false, cond, refl, ◌∙◌, Option, None, Some, is_some, find, length, position, unwrap_or, ltb}
use Rattle.std.specs.List.{position_or_len}
use Rattle.std.proofs.lemmas.List.Folds.{find_at}
use Rattle.std.proofs.lemmas.Bool.{ltb-true, ltb-false}
use Rattle.std.proofs.lemmas.Option.{slice_get_past}

pub place_within : {X : Type 0} (p : X → Bool) (xs : List X) → is_some (find p xs) ≡ true → unwrap_or (position p xs) (length xs) < length xs
place_within {X} p xs h = by (ltb (position_or_len p xs) (length xs)) refl
  where
    lost : {A : Type 0} → (o : Option A) → o ≡ None → is_some o ≡ true → ⊥
    lost None e k = absurd (cc)
    lost (Some x) e k = absurd (cc)

    by : (b : Bool) → ltb (position_or_len p xs) (length xs) ≡ b → unwrap_or (cond b (Some (position_or_len p xs)) None) (length xs) < length xs
    by true e = ltb-true (position_or_len p xs) (length xs) e
    by false e = absurd (lost (find p xs) (find_at p xs ∙ slice_get_past xs (position_or_len p xs) (ltb-false (position_or_len p xs) (length xs) e)) h)
