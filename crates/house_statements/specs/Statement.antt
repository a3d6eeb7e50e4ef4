-- The text of a statement.
use Rattle.std.specs.Prelude.{ℕ, List, [], ◌∷◌, codes, map}
use Rattle.exact_money.specs.Amount.{amount_text}
use Rattle.ocpi_types.specs.Party.{party_text}
use Rattle.netting_positions.specs.StatementKeys.{in_capitals}
use Rattle.netting_positions.specs.declared.row.StatementRow.{StatementRow}
use Rattle.house_statements.specs.Table.{table_text}

abbrev pub statement_header : List (List ℕ)
statement_header =
    codes "currency" ∷ codes "counterpart" ∷ codes "receivable" ∷ codes "payable" ∷ codes "net" ∷ []

-- the counterpart in capital letters, and amounts with four decimals
unfoldable pub row_fields : StatementRow → List (List ℕ)
row_fields row =
    row.currency ∷ party_text (in_capitals row.counterpart)
    ∷ amount_text row.receivable ∷ amount_text row.payable ∷ amount_text row.net ∷ []

-- a header, and a record for each row
abbrev pub statement_text : List StatementRow → List ℕ
statement_text rows = table_text (statement_header ∷ map row_fields rows)
