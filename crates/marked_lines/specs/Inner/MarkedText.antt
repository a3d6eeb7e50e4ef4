-- The cut of a line and its marked text, piece by piece.
use Rattle.std.specs.Prelude.{ℕ, zero, suc, ◌+◌, List, [], ◌∷◌, Bool, true, false, ◌==◌, if◌then◌else◌, Option, Some, None, length, take, drop}
use Rattle.std.specs.List.{prefix_len, flat_map, list_all}
use Rattle.json.specs.Word.{after_number}
use Rattle.marked_lines.specs.Cut.{begins_number, is_number_byte, Piece, string, number, single, marked}

-- how many bytes a string takes behind its opening quote
abbrev pub text_end : Bool → List ℕ → ℕ
text_end kept [] = 0
text_end true (byte ∷ bytes) = 1 + text_end false bytes
text_end false (byte ∷ bytes) = if byte == 34 then 1 else 1 + text_end (byte == 92) bytes

-- the first pieces, at most so many
unfoldable pub first_pieces : ℕ → List ℕ → List Piece
first_pieces zero bytes = []
first_pieces (suc most) [] = []
first_pieces (suc most) (byte ∷ bytes) =
    if byte == 34 then string (take (text_end false bytes) bytes) ∷ first_pieces most (drop (text_end false bytes) bytes) else
    (if begins_number byte then number (take (1 + prefix_len is_number_byte bytes) (byte ∷ bytes)) ∷ first_pieces most (drop (1 + prefix_len is_number_byte bytes) (byte ∷ bytes)) else
    single byte ∷ first_pieces most bytes)

-- the pieces of a line, of which there are at most as many as bytes
abbrev pub pieces : List ℕ → List Piece
pieces bytes = first_pieces (length bytes) bytes

-- nothing is left
abbrev pub is_end : Option (List ℕ) → Bool
is_end None = false
is_end (Some []) = true
is_end (Some (byte ∷ bytes)) = false

-- a number token is a number, as a test
abbrev pub is_sound : Piece → Bool
is_sound (string bytes) = true
is_sound (number token) = is_end (after_number token)
is_sound (single byte) = true

-- the marked text of a line, if its number tokens are numbers
unfoldable pub marked_text : List ℕ → Option (List ℕ)
marked_text bytes = if list_all is_sound (pieces bytes) then Some (flat_map marked (pieces bytes)) else None
