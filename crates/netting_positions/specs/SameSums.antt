-- Obligations that say the same of what is owed: between any two parties, in each currency.
use Rattle.std.specs.Prelude.{◌≡◌, ℕ, ℤ, List, ◌++◌, Bool, true, ◌&&◌, filter, flat_map}
use Rattle.std.specs.List.{list_all, list_any}
use Rattle.ocpi_types.specs.Currency.{same_currency}
use Rattle.ocpi_types.specs.Different.{all_different}
use Rattle.ocpi_types.specs.Party.{same_party}
use Rattle.ocpi_types.specs.declared.party.Party.{Party}
use Rattle.netting_positions.specs.Netting.{amounts, is_among, net_positions, total}
use Rattle.netting_positions.specs.Statement.{statement_rows}
use Rattle.netting_positions.specs.declared.obligation.Obligation.{Obligation}

-- the provider owes the operator in that currency
abbrev pub is_between : Party → Party → List ℕ → Obligation → Bool
is_between operator provider currency obligation =
    same_party obligation.operator operator && same_party obligation.provider provider
    && same_currency obligation.currency currency

-- what is owed between them, together
abbrev pub owed_between : Party → Party → List ℕ → List Obligation → ℤ
owed_between operator provider currency obligations =
    total (amounts (filter (is_between operator provider currency) obligations))

-- there is an obligation between them
abbrev pub is_any_between : Party → Party → List ℕ → List Obligation → Bool
is_any_between operator provider currency obligations = list_any (is_between operator provider currency) obligations

-- the same is owed between any two parties in each currency, and where one list has an obligation the other has one
pub record OweAlike (some others : List Obligation) : Type 0 where
  pub owed : (operator provider : Party) (currency : List ℕ) → owed_between operator provider currency some ≡ owed_between operator provider currency others
  pub between : (operator provider : Party) (currency : List ℕ) → is_any_between operator provider currency some ≡ is_any_between operator provider currency others

-- ---- what follows

-- the net positions are then the same
abbrev pub SumsDecideNetPositions : Type 0
SumsDecideNetPositions =
    (parties : List Party) (currencies : List (List ℕ)) (some others : List Obligation) → OweAlike some others →
    net_positions parties currencies some ≡ net_positions parties currencies others

-- and so are the statements
abbrev pub SumsDecideStatements : Type 0
SumsDecideStatements =
    (party : Party) (some others : List Obligation) → OweAlike some others →
    statement_rows party some ≡ statement_rows party others

-- lists that owe alike do so behind lists that owe alike
abbrev pub JoinedListsOweAlike : Type 0
JoinedListsOweAlike =
    (some others later rest : List Obligation) → OweAlike some others → OweAlike later rest →
    OweAlike (some ++ later) (others ++ rest)

-- the obligations to these operators, operator by operator
abbrev pub by_operator : List Party → List Obligation → List Obligation
by_operator operators obligations =
    flat_map (λ operator. filter (λ obligation. same_party obligation.operator operator) obligations) operators

-- where no two operators are the same and each obligation is to one of them, they owe alike
abbrev pub OperatorsOweAlike : Type 0
OperatorsOweAlike =
    (operators : List Party) (obligations : List Obligation) → all_different same_party operators ≡ true →
    list_all (λ obligation. is_among operators obligation.operator) obligations ≡ true →
    OweAlike (by_operator operators obligations) obligations
