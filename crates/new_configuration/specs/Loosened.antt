-- The loosest configuration beside a given one: with the same parties, currencies, zones and holds, and nothing else in the way.
use Rattle.std.specs.Prelude.{◌≡◌, ◌≤◌, ◌^◌, ℕ, max, true, List, [], ◌∷◌, ◌++◌, map, flat_map, Option, Some, None, codes}
use Rattle.ocpi_types.specs.declared.config.Config.{Config}
use Rattle.ocpi_types.specs.declared.config.Limits.{Limits}
use Rattle.ocpi_types.specs.declared.config.Platform.{Platform}
use Rattle.ocpi_types.specs.declared.config.Provider.{Provider}
use Rattle.ocpi_types.specs.declared.config.ProviderLimit.{ProviderLimit}
use Rattle.ocpi_types.specs.declared.party.Party.{Party}
use Rattle.ocpi_types.specs.Config.{has_currency, hold_of, is_provider, limit_of, row_in}
use Rattle.period_order.specs.Judging.{MayJudge}

-- a row of limits with the highest limit and the same hold
abbrev pub with_highest_limit : ProviderLimit → ProviderLimit
with_highest_limit row = record row { limit = max row.limit (10 ^ 15) }

-- the row in a currency of a provider that has none there: the highest limit, and the hold of a provider without a row
abbrev pub row_if_none : List ℕ → Option ProviderLimit → List ProviderLimit
row_if_none currency None = record { currency = currency; limit = 10 ^ 15; hold = 1 } ∷ []
row_if_none currency (Some row) = []

-- a row for each of the currencies in which the provider has none
abbrev pub missing_rows : Provider → List (List ℕ) → List ProviderLimit
missing_rows provider currencies = flat_map (λ currency. row_if_none currency (row_in currency provider)) currencies

-- a provider with the highest limit and the same hold in each of the currencies
abbrev pub with_highest_limits : List (List ℕ) → Provider → Provider
with_highest_limits currencies provider =
    record provider { limits = map with_highest_limit provider.limits ++ missing_rows provider currencies }

-- a hub that acts for every operator and provider
abbrev pub hub_for_all : Config → Platform
hub_for_all config = record {
  name = codes "hub";
  parties = map (λ operator. operator.party) config.operators ++ map (λ provider. provider.party) config.providers;
  hub = true;
}

-- as many of each as a house keeps
abbrev pub largest : Limits → Limits
largest limits = record {
  cdrs = max limits.cdrs 100_000;
  tariffs = max limits.tariffs 10_000;
  entries = max limits.entries 10_000_000;
  order = max limits.order 10_000_000;
  periods = max limits.periods 10_000;
}

-- the highest tolerance and limits, the largest sizes, no pair limits, no credit window, and one platform that may ask for all; a
-- number that a configuration cannot have is left as it is
abbrev pub loosened : Config → Config
loosened config = record {
  tolerance = max config.tolerance (10 ^ 12);
  currencies = config.currencies;
  operators = config.operators;
  providers = map (with_highest_limits config.currencies) config.providers;
  platforms = hub_for_all config ∷ [];
  limits = largest config.limits;
  pair_limits = [];
  credit_window = None;
}

-- each configuration may judge in a house of the loosest one beside it
abbrev pub LoosenedJudgesWider : Type 0
LoosenedJudgesWider = (config : Config) → MayJudge config (loosened config)

-- under it each provider has the same holds, and at least the highest limit in each currency of the configuration, whether it has a row or none
abbrev pub LoosenedLimitsAreHighest : Type 0
LoosenedLimitsAreHighest =
    (config : Config) (provider : Party) (currency : List ℕ) → is_provider config provider ≡ true → has_currency config currency ≡ true →
    (10 ^ 15 ≤ limit_of (loosened config) provider currency) × (hold_of (loosened config) provider currency ≡ hold_of config provider currency)
