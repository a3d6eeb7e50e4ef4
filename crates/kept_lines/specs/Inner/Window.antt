-- The part of a file that is in memory.
use Rattle.std.specs.Prelude.{◌≡◌, ◌+◌, ◌≤◌, ℕ, List, length, take, drop, slice_index, [], ◌∷◌, ◌++◌}
use Rattle.kept_lines.specs.File.{IsLine, kept_in, marked}

-- these are bytes of the file, from this place on
abbrev pub IsWindow : List ℕ → ℕ → List ℕ → Type 0
IsWindow file begin window = take (length window) (drop begin file) ≡ window

-- the bytes before this place are whole lines
pub record IsPlace (file : List ℕ) (place : ℕ) : Type 0 where
  pub within : place ≤ length file
  pub front : take place file ≡ marked (kept_in (take place file))

-- a text begins with a line of `count` bytes
pub record BeginsLine (text : List ℕ) (count : ℕ) : Type 0 where
  pub within : count + 2 ≤ length text
  pub line : IsLine (take count (drop 1 text))
  pub split : text ≡ 43 ∷ take count (drop 1 text) ++ 10 ∷ drop (count + 2) text

-- a text begins with no whole line
abbrev pub BeginsNoLine : List ℕ → Type 0
BeginsNoLine text = slice_index text 0 ≡ 43 → IsLine (drop 1 text)

-- such a text of which `left` bytes are left may end a file
abbrev pub MayEndBy : ℕ → List ℕ → Type 0
MayEndBy left [] = Unit {0}
MayEndBy left (mark ∷ after) = (mark ≡ 45) × (left ≤ 3145729)
