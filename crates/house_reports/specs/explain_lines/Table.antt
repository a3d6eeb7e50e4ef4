-- The text of the table of refused lines (RFC 4180, section 2).
use Rattle.std.specs.Prelude.{◌≡◌, ℕ, List, [], ◌∷◌, codes, decimal}
use Rattle.csv.specs.Writing.{default_writer, row_text}
use Rattle.line_causes.specs.Columns.{Columns, columns_of}
use Rattle.line_causes.specs.declared.line_cause.LineCause.{LineCause}

-- the fields with commas between them, quoted where they have to be, and a newline
unfoldable pub record_text : List (List ℕ) → List ℕ
record_text fields = row_text default_writer fields

-- the names of the columns
unfoldable pub header : List ℕ
header =
    record_text (codes "line" ∷ codes "refusal" ∷ codes "place" ∷ codes "cause" ∷ codes "found" ∷ codes "against" ∷ codes "event" ∷ [])

abbrev pub row_with : ℕ → List ℕ → Columns → List ℕ
row_with number refusal columns =
    record_text (decimal number ∷ refusal ∷ columns.place ∷ columns.cause ∷ columns.found ∷ columns.against ∷ columns.event ∷ [])

-- the number of a line, the name of its refusal, and its cause
abbrev pub row_of : ℕ → List ℕ → LineCause → List ℕ
row_of number refusal cause = row_with number refusal (columns_of cause)

-- the row of a line that is refused for such a cause
abbrev pub IsRow : ℕ → List ℕ → (LineCause → Type 0) → List ℕ → Type 0
IsRow number refusal IsCause text = (cause : LineCause) × IsCause cause × (text ≡ row_of number refusal cause)
