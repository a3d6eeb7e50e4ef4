-- Of what a configuration is warned that is in force: it keeps a party or a hub from something that it seems to be there for.
use Rattle.std.specs.Prelude.{ℕ, Bool, nat_lt, List, [], ◌∷◌, ◌++◌, flat_map, Option, Some, None, if◌then◌else◌}
use Rattle.std.specs.List.{list_any}
use Rattle.ocpi_types.specs.declared.config.Config.{Config}
use Rattle.ocpi_types.specs.declared.config.Operator.{Operator}
use Rattle.ocpi_types.specs.declared.config.Provider.{Provider}
use Rattle.ocpi_types.specs.declared.config.ProviderLimit.{ProviderLimit}
use Rattle.ocpi_types.specs.declared.party.Party.{Party}
use Rattle.ocpi_types.specs.Config.{acts_for, row_in}
use Rattle.input_reports.specs.declared.check_config.warning.Warning.{Warning}
use Rattle.input_reports.specs.declared.check_config.warning.Warning.TheVariants.{IdleOperator, IdleProvider, NoLimit, HoldAboveLimit, NoHub}

-- ---- parties

-- some platform acts for the party
abbrev pub has_platform : Config → Party → Bool
has_platform config party = list_any (λ platform. acts_for platform party) config.platforms

abbrev pub operator_warnings : Config → Operator → List Warning
operator_warnings config operator = if has_platform config operator.party then [] else IdleOperator operator.party ∷ []

abbrev pub provider_warnings : Config → Provider → List Warning
provider_warnings config provider = if has_platform config provider.party then [] else IdleProvider provider.party ∷ []

-- those for which no platform acts, in the order of the configuration
abbrev pub party_warnings : Config → List Warning
party_warnings config = flat_map (operator_warnings config) config.operators ++ flat_map (provider_warnings config) config.providers

-- ---- limits of providers

-- an authorisation holds more than the limit
abbrev pub is_hold_above : ProviderLimit → Bool
is_hold_above row = nat_lt row.limit row.hold

-- of a provider in a currency, by the row that it has there
abbrev pub row_warnings : Party → List ℕ → Option ProviderLimit → List Warning
row_warnings party currency None = NoLimit party currency ∷ []
row_warnings party currency (Some row) = if is_hold_above row then HoldAboveLimit party row ∷ [] else []

-- of a provider in each of these currencies
abbrev pub rows_warnings : List (List ℕ) → Provider → List Warning
rows_warnings currencies provider = flat_map (λ currency. row_warnings provider.party currency (row_in currency provider)) currencies

-- of each provider in each currency, in the order of the configuration
abbrev pub limit_warnings : Config → List Warning
limit_warnings config = flat_map (rows_warnings config.currencies) config.providers

-- ---- the hub

abbrev pub has_hub : Config → Bool
has_hub config = list_any (λ platform. platform.hub) config.platforms

abbrev pub hub_warnings : Config → List Warning
hub_warnings config = if has_hub config then [] else NoHub ∷ []

-- ---- all

abbrev pub warnings : Config → List Warning
warnings config = party_warnings config ++ limit_warnings config ++ hub_warnings config
