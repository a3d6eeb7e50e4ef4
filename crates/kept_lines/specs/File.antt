-- The lines that a file keeps.
use Rattle.std.specs.Prelude.{◌≡◌, ◌≢◌, ◌<◌, ◌≤◌, ℕ, List, length, [], ◌∷◌, ◌++◌, if◌then◌else◌, ◌==◌, Option, None, Some}
use Rattle.std.specs.List.{All}

-- a line has no newline, 10
abbrev pub IsLine : List ℕ → Type 0
IsLine line = All (λ byte. byte ≢ 10) line

-- the lines that a text keeps from here on; `Some` has the bytes of a line that has begun
abbrev pub kept_from : Option (List ℕ) → List ℕ → List (List ℕ)
kept_from state [] = []
kept_from None (byte ∷ rest) = if byte == 43 then kept_from (Some []) rest else []
kept_from (Some line) (byte ∷ rest) = if byte == 10 then line ∷ kept_from None rest else kept_from (Some (line ++ byte ∷ [])) rest

-- the lines that begin with an open mark, 43, and end with a newline, up to the first that does not
abbrev pub kept_in : List ℕ → List (List ℕ)
kept_in file = kept_from None file

-- each line after an open mark, and with its newline
abbrev pub marked : List (List ℕ) → List ℕ
marked [] = []
marked (line ∷ lines) = 43 ∷ line ++ 10 ∷ marked lines

-- a line begins here, and has no newline among its first bytes, which are more than the limit
abbrev pub BeginsTooLong : ℕ → List ℕ → Type 0
BeginsTooLong limit text = (begun after : List ℕ) × (text ≡ 43 ∷ begun ++ after) × IsLine begun × (limit < length begun)

-- what comes after the lines of an intact file: nothing, or a closed mark and no more bytes than a batch has after its first mark
abbrev pub MayEnd : List ℕ → Type 0
MayEnd [] = Unit {0}
MayEnd (mark ∷ after) = (mark ≡ 45) × (length after ≤ 3145728)
