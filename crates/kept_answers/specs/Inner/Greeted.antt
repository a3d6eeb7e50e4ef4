-- What a greeting tells of a store.
use Rattle.std.specs.Prelude.{◌≡◌, ℕ, List, ◌∷◌, length}
use Rattle.kept_batches.specs.Heads.{head}
use Rattle.kept_answers.specs.declared.keeping.Held.{Held}

-- the number of lines after the first record, and the head after all of them
pub record IsHeld (held : Held) (first : List ℕ) (lines : List (List ℕ)) : Type 0 where
  pub count_is : held.count ≡ length lines
  pub head_is : held.head ≡ head (first ∷ lines)
