-- The lines of a text of bytes: a newline ends a line, and a last part without one counts if it isn't empty.
use Rattle.std.specs.Prelude.{◌≡◌, ◌≢◌, ◌==◌, ℕ, ◌≤◌, List, [], ◌∷◌, ◌++◌, length, if◌then◌else◌, All}
use Rattle.std.specs.List.{flat_map}

-- the byte that ends a line
abbrev pub newline : ℕ
newline = 10

-- the byte goes onto the first line, if there is one
abbrev pub onto_first : ℕ → List (List ℕ) → List (List ℕ)
onto_first b [] = []
onto_first b (line ∷ lines) = (b ∷ line) ∷ lines

-- the lines that a newline ends, each without it
abbrev pub whole_lines : List ℕ → List (List ℕ)
whole_lines [] = []
whole_lines (b ∷ bytes) = if b == newline then [] ∷ whole_lines bytes else onto_first b (whole_lines bytes)

-- a part counts as a line if it isn't empty
abbrev pub last_line : List ℕ → List (List ℕ)
last_line [] = []
last_line (b ∷ bytes) = (b ∷ bytes) ∷ []

-- the byte goes onto the first line, or is the first of one
abbrev pub onto_line : ℕ → List (List ℕ) → List (List ℕ)
onto_line b [] = (b ∷ []) ∷ []
onto_line b (line ∷ lines) = (b ∷ line) ∷ lines

-- the lines, each without its newline, and a last one even without
abbrev pub lines_of : List ℕ → List (List ℕ)
lines_of [] = []
lines_of (b ∷ bytes) = if b == newline then [] ∷ lines_of bytes else onto_line b (lines_of bytes)

-- a line has at most so many bytes, without its newline
abbrev pub IsShort : List ℕ → Type 0
IsShort line = length line ≤ 1048576

abbrev pub HasNoNewline : List ℕ → Type 0
HasNoNewline line = All (λ b. b ≢ newline) line

-- the line as it stands in a text
abbrev pub with_newline : List ℕ → List ℕ
with_newline line = line ++ newline ∷ []

-- The bytes are these lines, each with a newline, and then this last part; no newline is anywhere else. Only one list
-- of lines and one last part are so.
pub record AreLines (bytes : List ℕ) (whole : List (List ℕ)) (last : List ℕ) : Type 0 where
  pub joined : bytes ≡ flat_map with_newline whole ++ last
  pub whole_have_none : All HasNoNewline whole
  pub last_has_none : HasNoNewline last
