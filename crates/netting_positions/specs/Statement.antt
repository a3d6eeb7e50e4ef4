-- The statement of a party: what it and each of its counterparts owe each other, by currency.
use Rattle.std.specs.Prelude.{ℤ, ◌-ℤ◌, List, Bool, ◌&&◌, map, filter, filter_map}
use Rattle.ocpi_types.specs.Currency.{same_currency}
use Rattle.ocpi_types.specs.Party.{same_party}
use Rattle.ocpi_types.specs.declared.party.Party.{Party}
use Rattle.netting_positions.specs.Inner.KeysInOrder.{in_order}
use Rattle.netting_positions.specs.Netting.{amounts, total}
use Rattle.netting_positions.specs.StatementKeys.{key_of}
use Rattle.netting_positions.specs.declared.obligation.Obligation.{Obligation}
use Rattle.netting_positions.specs.declared.row.Key.{Key}
use Rattle.netting_positions.specs.declared.row.StatementRow.{StatementRow}

-- ---- rows

-- the party is the operator, and the key's counterpart the provider
abbrev pub is_receivable_of : Party → Key → Obligation → Bool
is_receivable_of party key obligation =
    same_currency obligation.currency key.currency && same_party obligation.operator party
    && same_party obligation.provider key.counterpart

-- the party is the provider, and the key's counterpart the operator
abbrev pub is_payable_of : Party → Key → Obligation → Bool
is_payable_of party key obligation =
    same_currency obligation.currency key.currency && same_party obligation.provider party
    && same_party obligation.operator key.counterpart

-- what the party is to receive of the key's counterpart, and what it is to pay to it
unfoldable pub receivable_of : Party → Key → List Obligation → ℤ
receivable_of party key obligations = total (amounts (filter (is_receivable_of party key) obligations))

unfoldable pub payable_of : Party → Key → List Obligation → ℤ
payable_of party key obligations = total (amounts (filter (is_payable_of party key) obligations))

abbrev pub row_of : Party → List Obligation → Key → StatementRow
row_of party obligations key = record {
  currency = key.currency;
  counterpart = key.counterpart;
  receivable = receivable_of party key obligations;
  payable = payable_of party key obligations;
  net = receivable_of party key obligations -ℤ payable_of party key obligations;
}

-- the keys of the obligations in order, each once (`StatementsAreInOrder`)
abbrev pub keys_of : Party → List Obligation → List Key
keys_of party obligations = in_order (filter_map (key_of party) obligations)

-- a row for each currency and counterpart of an obligation of the party, in order
abbrev pub statement_rows : Party → List Obligation → List StatementRow
statement_rows party obligations = map (row_of party obligations) (keys_of party obligations)
