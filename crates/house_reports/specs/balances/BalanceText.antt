-- The CSV text of rows (RFC 4180, section 2).
use Rattle.std.specs.Prelude.{ℕ, List, [], ◌∷◌, ◌++◌, codes, decimal, flat_map, map}
use Rattle.csv.specs.Writing.{default_writer, row_text}
use Rattle.exact_money.specs.Amount.{amount_text}
use Rattle.ocpi_types.specs.Party.{party_text}
use Rattle.house_reports.specs.declared.balances.row.RowKey.{RowKey}
use Rattle.house_reports.specs.declared.balances.row.Row.{Row}

-- the fields with commas between them, quoted where they have to be, and a newline
unfoldable pub record_text : List (List ℕ) → List ℕ
record_text fields = row_text default_writer fields

-- ---- the header

abbrev pub key_heads : List (List ℕ)
key_heads = codes "period" ∷ codes "currency" ∷ codes "operator" ∷ codes "provider" ∷ []

abbrev pub amount_heads : List (List ℕ)
amount_heads = codes "owed" ∷ codes "settled" ∷ codes "open" ∷ []

unfoldable pub header : List (List ℕ)
header = key_heads ++ amount_heads

-- ---- a row

abbrev pub key_fields : RowKey → List (List ℕ)
key_fields key =
    decimal key.period ∷ key.currency ∷ party_text key.operator ∷ party_text key.provider ∷ []

-- with four decimals
abbrev pub amount_fields : Row → List (List ℕ)
amount_fields row = amount_text row.owed ∷ amount_text row.settled ∷ amount_text row.outstanding ∷ []

unfoldable pub row_fields : Row → List (List ℕ)
row_fields row = key_fields row.key ++ amount_fields row

-- ---- the text

-- one record after another
abbrev pub table_text : List (List (List ℕ)) → List ℕ
table_text records = flat_map record_text records

-- a header, and a record for each row
abbrev pub balance_text : List Row → List ℕ
balance_text rows = table_text (header ∷ map row_fields rows)
