-- A line at the front of a text.
use Rattle.std.specs.Prelude.{◌≡◌, ◌+◌, ◌≤◌, ℕ, List, length, take, drop, slice_index, ◌∷◌, ◌++◌}
use Rattle.kept_batches.specs.Text.{IsLine}

-- a text begins with a line of `count` bytes
pub record BeginsLine (text : List ℕ) (count : ℕ) : Type 0 where
  pub within : count + 2 ≤ length text
  pub line : IsLine (take count (drop 1 text))
  pub split : text ≡ 43 ∷ take count (drop 1 text) ++ 10 ∷ drop (count + 2) text

-- a text begins with no whole line
abbrev pub BeginsNoLine : List ℕ → Type 0
BeginsNoLine text = slice_index text 0 ≡ 43 → IsLine (drop 1 text)
