-- Lines, each behind a `+` and with its newline.
use Rattle.std.specs.Prelude.{◌≡◌, ◌≢◌, ◌≤◌, length, take, drop, ℕ, List, [], ◌∷◌, ◌++◌, if◌then◌else◌, ◌==◌, Option, None, Some}
use Rattle.std.specs.List.{All}

-- a line has no newline, 10
abbrev pub IsLine : List ℕ → Type 0
IsLine line = All (λ byte. byte ≢ 10) line

-- the lines of a text from here on; `Some` has the bytes of a line that has begun
abbrev pub lines_from : Option (List ℕ) → List ℕ → List (List ℕ)
lines_from state [] = []
lines_from None (byte ∷ rest) = if byte == 43 then lines_from (Some []) rest else []
lines_from (Some line) (byte ∷ rest) = if byte == 10 then line ∷ lines_from None rest else lines_from (Some (line ++ byte ∷ [])) rest

-- the lines that begin with `+`, 43, and end with a newline, up to the first that does not
abbrev pub lines_in : List ℕ → List (List ℕ)
lines_in text = lines_from None text

-- the text of lines
abbrev pub marked : List (List ℕ) → List ℕ
marked [] = []
marked (line ∷ lines) = 43 ∷ line ++ 10 ∷ marked lines

-- lines, each with its newline
abbrev pub ended : List (List ℕ) → List ℕ
ended [] = []
ended (line ∷ lines) = line ++ 10 ∷ ended lines

-- the lines in the first `count` bytes of a text are added, and the rest of the text has no newline
pub record AddsLines (old : List (List ℕ)) (text : List ℕ) (count : ℕ) (new : List (List ℕ)) : Type 0 where
  pub added : List (List ℕ)
  pub are : All IsLine added
  pub new_is : new ≡ old ++ added
  pub within : count ≤ length text
  pub front : take count text ≡ ended added
  pub no_more : IsLine (drop count text)
