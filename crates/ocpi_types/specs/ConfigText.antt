-- The configuration that a text says: a JSON object of 1,048,576 bytes at most. Each fault is that of the first member in
-- this order that has one. Members not named here are passed over.
use Rattle.std.specs.Prelude.{ℕ, List, [], length, ◌==◌, nat_le, if◌then◌else◌, Option, Some, None, Result, Ok, Err, unwrap_or}
use Rattle.json.specs.Json.{Json as Data}
use Rattle.ocpi_json.specs.Fields.{each_of, list, list_or_empty, object, optional, required, whole}
use Rattle.ocpi_json.specs.Members.{◌>>=◌, each, if_any, inside}
use Rattle.ocpi_json.specs.Reading.{data_of}
use Rattle.ocpi_json.specs.declared.member_fault.MemberFault.{MemberFault}
use Rattle.ocpi_json.specs.declared.name.Name.TheVariants as name
use Rattle.ocpi_types.specs.Config.{alike_operators, alike_providers, alike_platforms, alike_pairs}
use Rattle.ocpi_types.specs.ConfigParts.{operator_entry_at, provider_entry_at, platform_at, pair_limit_at, limits_at, largest}
use Rattle.ocpi_types.specs.Currency.{a_currency, same_currency}
use Rattle.ocpi_types.specs.Different.{all_different, doubled}
use Rattle.ocpi_types.specs.Members.{ensure}
use Rattle.ocpi_types.specs.declared.config.Config.{Config}
use Rattle.ocpi_types.specs.declared.config.Limits.{Limits}
use Rattle.ocpi_types.specs.declared.config.Operator.{Operator}
use Rattle.ocpi_types.specs.declared.config.PairLimit.{PairLimit}
use Rattle.ocpi_types.specs.declared.config.Platform.{Platform}
use Rattle.ocpi_types.specs.declared.config.Provider.{Provider}
use Rattle.ocpi_types.specs.declared.config.parts.Listed.{Listed}
use Rattle.ocpi_types.specs.declared.config.reading.ConfigFault.{ConfigFault}
use Rattle.ocpi_types.specs.declared.config.reading.ConfigFault.TheVariants.{Syntax, Member}

-- 1 to 16 currencies
unfoldable pub currencies_at : Data → Result (List (List ℕ)) MemberFault
currencies_at node = do
  items ← required (list 1 16) name.Currencies node
  currencies ← each_of a_currency name.Currencies 0 items
  _ ← ensure (all_different same_currency currencies) (doubled name.Currencies)
  Ok currencies

-- 1 to 64 operators
unfoldable pub operators_at : Data → Result (List Operator) MemberFault
operators_at node = do
  items ← required (list 1 64) name.Operators node
  operators ← each name.Operators operator_entry_at items
  _ ← ensure (all_different alike_operators operators) (doubled name.Operators)
  Ok operators

-- 1 to 64 providers
unfoldable pub providers_at : List (List ℕ) → Data → Result (List Provider) MemberFault
providers_at currencies node = do
  items ← required (list 1 64) name.Providers node
  providers ← each name.Providers (provider_entry_at currencies) items
  _ ← ensure (all_different alike_providers providers) (doubled name.Providers)
  Ok providers

-- the currencies and parties, which the other parts name
unfoldable pub listed_at : Data → Result Listed MemberFault
listed_at node = do
  currencies ← currencies_at node
  operators ← operators_at node
  providers ← providers_at currencies node
  Ok (record { currencies = currencies; operators = operators; providers = providers })

-- 1 to 128 platforms
unfoldable pub platforms_at : Listed → Data → Result (List Platform) MemberFault
platforms_at listed node = do
  items ← required (list 1 128) name.Platforms node
  platforms ← each name.Platforms (platform_at listed) items
  _ ← ensure (all_different alike_platforms platforms) (doubled name.Platforms)
  Ok platforms

-- how many of each the house keeps: as many as there may be, where nothing is said
unfoldable pub house_limits_at : Data → Result Limits MemberFault
house_limits_at node = do
  found ← optional object name.Limits node
  limits ← if_any (λ object. inside name.Limits (limits_at object)) found
  Ok (unwrap_or limits largest)

-- up to 4,096 limits of a provider with one operator, which version 2 brought
unfoldable pub stated_pair_limits_at : Listed → Data → Result (List PairLimit) MemberFault
stated_pair_limits_at listed node = do
  items ← list_or_empty 4096 name.PairLimits node
  pair_limits ← each name.PairLimits (pair_limit_at listed) items
  _ ← ensure (all_different alike_pairs pair_limits) (doubled name.PairLimits)
  Ok pair_limits

unfoldable pub pair_limits_at : ℕ → Listed → Data → Result (List PairLimit) MemberFault
pair_limits_at version listed node = if version == 2 then stated_pair_limits_at listed node else Ok []

-- the credit window, which version 2 brought
unfoldable pub credit_window_at : ℕ → Data → Result (Option ℕ) MemberFault
credit_window_at version node = if version == 2 then optional (whole 0 10_000) name.CreditWindow node else Ok None

unfoldable pub config_at : Data → Result Config MemberFault
config_at node = do
  version ← required (whole 1 2) name.Version node
  tolerance ← optional (whole 0 1_000_000_000_000) name.Tolerance node
  listed ← listed_at node
  platforms ← platforms_at listed node
  limits ← house_limits_at node
  pair_limits ← pair_limits_at version listed node
  credit_window ← credit_window_at version node
  Ok (record {
    tolerance = unwrap_or tolerance 100;
    currencies = listed.currencies;
    operators = listed.operators;
    providers = listed.providers;
    platforms = platforms;
    limits = limits;
    pair_limits = pair_limits;
    credit_window = credit_window;
  })

-- the fault at a member makes a fault of the configuration
abbrev pub or_member : Result Config MemberFault → Result Config ConfigFault
or_member (Ok config) = Ok config
or_member (Err fault) = Err (Member fault)

abbrev pub config_in : Option Data → Result Config ConfigFault
config_in None = Err Syntax
config_in (Some d) = or_member (config_at d)

-- the configuration that a text says
unfoldable pub config_of : List ℕ → Result Config ConfigFault
config_of text = if nat_le (length text) 1_048_576 then config_in (data_of text) else Err Syntax
