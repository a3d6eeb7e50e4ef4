-- The text of a table (RFC 4180, section 2): records of fields.
use Rattle.std.specs.Prelude.{ℕ, List, flat_map}
use Rattle.csv.specs.Writing.{default_writer, row_text}

-- the fields with commas between them, quoted where they have to be, and a newline
unfoldable pub record_text : List (List ℕ) → List ℕ
record_text fields = row_text default_writer fields

-- one record after another
abbrev pub table_text : List (List (List ℕ)) → List ℕ
table_text records = flat_map record_text records
