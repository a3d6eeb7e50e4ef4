-- What one more obligation changes in a statement, and what its table keeps.
use Rattle.std.specs.Prelude.{◌≡◌, ℕ, ◌*◌, ◌≤◌, ◌<◌, ◌^◌, length, true, ℤ, pos, ◌+ℤ◌, ◌-ℤ◌, unsigned_abs, List, [], ◌∷◌}
use Rattle.std.specs.List.{list_all}
use Rattle.std.specs.declared.cmp.Ordering.{Ordering}
use Rattle.std.specs.declared.cmp.Ordering.TheVariants.{Less, Equal, Greater}
use Rattle.ocpi_types.specs.declared.party.Party.{Party}
use Rattle.netting_positions.specs.Netting.{is_configured, is_payable, is_receivable, total_size}
use Rattle.netting_positions.specs.Statement.{statement_rows}
use Rattle.netting_positions.specs.StatementKeys.{key_order}
use Rattle.netting_positions.specs.Inner.Rows.{counted}
use Rattle.netting_positions.specs.declared.obligation.Obligation.{Obligation}
use Rattle.netting_positions.specs.declared.row.Key.{Key}
use Rattle.netting_positions.specs.declared.row.StatementRow.{StatementRow}

abbrev pub row_key : StatementRow → Key
row_key row = record { currency = row.currency; counterpart = row.counterpart }

abbrev pub zero_row : Key → StatementRow
zero_row key = record { currency = key.currency; counterpart = key.counterpart; receivable = pos 0; payable = pos 0; net = pos 0 }

-- ---- one more obligation, whose key is the row's

abbrev pub receivable_with : Party → Obligation → StatementRow → ℤ
receivable_with party obligation row = row.receivable +ℤ counted (is_receivable party obligation.currency) obligation

abbrev pub payable_with : Party → Obligation → StatementRow → ℤ
payable_with party obligation row = row.payable +ℤ counted (is_payable party obligation.currency) obligation

abbrev pub row_with : Party → Obligation → StatementRow → StatementRow
row_with party obligation row = record {
  currency = row.currency;
  counterpart = row.counterpart;
  receivable = receivable_with party obligation row;
  payable = payable_with party obligation row;
  net = receivable_with party obligation row -ℤ payable_with party obligation row;
}

-- the sums with it and their difference fit
pub record HasRoomIn (party : Party) (obligation : Obligation) (row : StatementRow) : Type 0 where
  pub receivable : unsigned_abs (receivable_with party obligation row) < 2 ^ 63
  pub payable : unsigned_abs (payable_with party obligation row) < 2 ^ 63
  pub net : unsigned_abs (receivable_with party obligation row -ℤ payable_with party obligation row) < 2 ^ 63

abbrev pub rows_with_at : Ordering → Party → Obligation → Key → StatementRow → List StatementRow → List StatementRow → List StatementRow
rows_with_at Less party obligation key row rows later = row ∷ later
rows_with_at Equal party obligation key row rows later = row_with party obligation row ∷ rows
rows_with_at Greater party obligation key row rows later = row_with party obligation (zero_row key) ∷ row ∷ rows

-- the rows in order with one more obligation of that key
abbrev pub rows_with : Party → Obligation → Key → List StatementRow → List StatementRow
rows_with party obligation key [] = row_with party obligation (zero_row key) ∷ []
rows_with party obligation key (row ∷ rows) =
    rows_with_at (key_order (row_key row) key) party obligation key row rows (rows_with party obligation key rows)

-- the rows are those of obligations that are configured and fit in 63 bits, and there are places for as many as there can be
pub record IsStated (rows : List StatementRow) (places : ℕ) (party : Party) (parties : List Party) (currencies : List (List ℕ)) (obligations : List Obligation) : Type 0 where
  pub rows_are : rows ≡ statement_rows party obligations
  pub configured : list_all (is_configured parties currencies) obligations ≡ true
  pub fits : total_size obligations < 2 ^ 63
  pub room : length currencies * length parties ≤ places
