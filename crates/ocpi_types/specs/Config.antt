-- What the configuration says of parties, currencies and limits. Parties and platform names are compared with letters
-- folded, currencies exactly.
use Rattle.std.specs.Prelude.{ℕ, List, Bool, false, ◌&&◌, ◌||◌, Option, find, option_map, option_and_then, unwrap_or, is_some}
use Rattle.std.specs.List.{list_any}
use Rattle.std.specs.Option.{option_or}
use Rattle.ocpi_json.specs.Folded.{same_folded}
use Rattle.ocpi_types.specs.Currency.{same_currency}
use Rattle.ocpi_types.specs.Party.{same_party}
use Rattle.ocpi_types.specs.declared.party.Party.{Party}
use Rattle.ocpi_types.specs.declared.config.Config.{Config}
use Rattle.ocpi_types.specs.declared.config.Operator.{Operator}
use Rattle.ocpi_types.specs.declared.config.Provider.{Provider}
use Rattle.ocpi_types.specs.declared.config.ProviderLimit.{ProviderLimit}
use Rattle.ocpi_types.specs.declared.config.PairLimit.{PairLimit}
use Rattle.ocpi_types.specs.declared.config.Platform.{Platform}

abbrev pub operator_among : List Operator → Party → Option Operator
operator_among operators party = find (λ operator. same_party operator.party party) operators

abbrev pub provider_among : List Provider → Party → Option Provider
provider_among providers party = find (λ provider. same_party provider.party party) providers

abbrev pub has_currency_among : List (List ℕ) → List ℕ → Bool
has_currency_among currencies currency = list_any (λ other. same_currency other currency) currencies

abbrev pub operator_of : Config → Party → Option Operator
operator_of config party = operator_among config.operators party

abbrev pub provider_of : Config → Party → Option Provider
provider_of config party = provider_among config.providers party

abbrev pub is_operator : Config → Party → Bool
is_operator config party = is_some (operator_of config party)

abbrev pub is_provider : Config → Party → Bool
is_provider config party = is_some (provider_of config party)

-- an operator, a provider or both
abbrev pub is_party : Config → Party → Bool
is_party config party = is_operator config party || is_provider config party

-- a party as it is configured, where it is both as it stands among the operators
abbrev pub as_configured : Config → Party → Party
as_configured config party =
    unwrap_or
    (option_or (option_map (λ operator. operator.party) (operator_of config party)) (option_map (λ provider. provider.party) (provider_of config party)))
    party

abbrev pub has_currency : Config → List ℕ → Bool
has_currency config currency = has_currency_among config.currencies currency

-- the limits of a provider in a currency
abbrev pub row_in : List ℕ → Provider → Option ProviderLimit
row_in currency provider = find (λ row. same_currency row.currency currency) provider.limits

abbrev pub row_of : Config → Party → List ℕ → Option ProviderLimit
row_of config party currency = option_and_then (row_in currency) (provider_of config party)

-- the credit limit of a provider in a currency: 0 where it has no row
abbrev pub limit_of : Config → Party → List ℕ → ℕ
limit_of config party currency = unwrap_or (option_map (λ row. row.limit) (row_of config party currency)) 0

-- what an authorisation holds of a provider in a currency: 0.0001 where it has no row
abbrev pub hold_of : Config → Party → List ℕ → ℕ
hold_of config party currency = unwrap_or (option_map (λ row. row.hold) (row_of config party currency)) 1

-- the credit limit of a provider with one operator in a currency, if there is one
abbrev pub pair_limit_of : Config → Party → Party → List ℕ → Option ℕ
pair_limit_of config operator provider currency =
    option_map (λ row. row.limit)
    (find (λ row. same_party row.operator operator && same_party row.provider provider && same_currency row.currency currency) config.pair_limits)

abbrev pub platform_of : Config → List ℕ → Option Platform
platform_of config name = find (λ platform. same_folded platform.name name) config.platforms

abbrev pub acts_for : Platform → Party → Bool
acts_for platform party = list_any (λ other. same_party other party) platform.parties

-- the platform of that name acts for the party; an unknown platform acts for none
abbrev pub may_act_for : Config → List ℕ → Party → Bool
may_act_for config name party = unwrap_or (option_map (λ platform. acts_for platform party) (platform_of config name)) false

-- the platform of that name is a hub
abbrev pub is_hub : Config → List ℕ → Bool
is_hub config name = unwrap_or (option_map (λ platform. platform.hub) (platform_of config name)) false

-- ---- of which a list has no two

abbrev pub alike_operators : Operator → Operator → Bool
alike_operators a b = same_party a.party b.party

abbrev pub alike_providers : Provider → Provider → Bool
alike_providers a b = same_party a.party b.party

abbrev pub alike_rows : ProviderLimit → ProviderLimit → Bool
alike_rows a b = same_currency a.currency b.currency

abbrev pub alike_platforms : Platform → Platform → Bool
alike_platforms a b = same_folded a.name b.name

abbrev pub alike_pairs : PairLimit → PairLimit → Bool
alike_pairs a b = same_party a.operator b.operator && same_party a.provider b.provider && same_currency a.currency b.currency
