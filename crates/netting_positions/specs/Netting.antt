-- Multilateral netting: what a party is to receive from all others less what it is to pay to them, by currency.
use Rattle.std.specs.Prelude.{◌≡◌, ℕ, ℤ, pos, ◌+ℤ◌, ◌-ℤ◌, unsigned_abs, List, [], ◌∷◌, ◌++◌, Bool, not, ◌&&◌, map, filter, flat_map, sum_by}
use Rattle.std.specs.List.{list_any, list_all}
use Rattle.ocpi_types.specs.Config.{has_currency_among, is_operator}
use Rattle.ocpi_types.specs.Currency.{same_currency}
use Rattle.ocpi_types.specs.Party.{same_party}
use Rattle.ocpi_types.specs.declared.config.Config.{Config}
use Rattle.ocpi_types.specs.declared.party.Party.{Party}
use Rattle.netting_positions.specs.declared.obligation.Obligation.{Obligation}
use Rattle.netting_positions.specs.declared.positions.NetPosition.{NetPosition}

-- ---- parties

-- the operators as listed, then the providers that are no operators
abbrev pub parties : Config → List Party
parties config =
    map (λ operator. operator.party) config.operators
    ++ filter (λ party. not (is_operator config party)) (map (λ provider. provider.party) config.providers)

abbrev pub is_among : List Party → Party → Bool
is_among parties party = list_any (λ other. same_party other party) parties

-- operator and provider are among these parties
abbrev pub are_among : List Party → List Obligation → Bool
are_among parties obligations =
    list_all (λ obligation. is_among parties obligation.operator && is_among parties obligation.provider) obligations

-- operator, provider and currency are among these
abbrev pub is_configured : List Party → List (List ℕ) → Obligation → Bool
is_configured parties currencies obligation =
    is_among parties obligation.operator && is_among parties obligation.provider
    && has_currency_among currencies obligation.currency

-- ---- sums

-- these amounts together
abbrev pub total : List ℤ → ℤ
total [] = pos 0
total (amount ∷ amounts) = amount +ℤ total amounts

abbrev pub amounts : List Obligation → List ℤ
amounts obligations = map (λ obligation. obligation.amount) obligations

-- how large the amount is, on either side of 0
abbrev pub size : Obligation → ℕ
size obligation = unsigned_abs obligation.amount

abbrev pub total_size : List Obligation → ℕ
total_size obligations = sum_by size obligations

-- ---- net positions

abbrev pub is_receivable : Party → List ℕ → Obligation → Bool
is_receivable party currency obligation = same_currency obligation.currency currency && same_party obligation.operator party

abbrev pub is_payable : Party → List ℕ → Obligation → Bool
is_payable party currency obligation = same_currency obligation.currency currency && same_party obligation.provider party

-- what the party is to receive, as an operator
unfoldable pub receivable : Party → List ℕ → List Obligation → ℤ
receivable party currency obligations = total (amounts (filter (is_receivable party currency) obligations))

-- what the party is to pay, as a provider
unfoldable pub payable : Party → List ℕ → List Obligation → ℤ
payable party currency obligations = total (amounts (filter (is_payable party currency) obligations))

-- what it is to receive less what it is to pay
unfoldable pub net_position : Party → List ℕ → List Obligation → ℤ
net_position party currency obligations = receivable party currency obligations -ℤ payable party currency obligations

abbrev pub position : List Obligation → List ℕ → Party → NetPosition
position obligations currency party =
    record { currency = currency; party = party; net = net_position party currency obligations }

-- by currency, then by party, in the order given
abbrev pub net_positions : List Party → List (List ℕ) → List Obligation → List NetPosition
net_positions parties currencies obligations =
    flat_map (λ currency. map (position obligations currency) parties) currencies

-- in each currency the net positions of a list add up to 0
abbrev pub IsBalanced : List NetPosition → Type 0
IsBalanced rows = (currency : List ℕ) → total (map (λ row. row.net) (filter (λ row. same_currency row.currency currency) rows)) ≡ pos 0
