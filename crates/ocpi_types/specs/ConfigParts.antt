-- The parts of a configuration in a node. Each fault is that of the first member in this order that has one.
use Rattle.std.specs.Prelude.{ℕ, List, Bool, false, ◌||◌, Option, Some, None, Result, Ok, if◌then◌else◌, is_some, option_and_then, unwrap_or}
use Rattle.json.specs.Json.{Json as Data}
use Rattle.ocpi_json.specs.Fields.{Kind, as_parsed, ascii, each_of, flag, list_or_empty, optional, required, whole}
use Rattle.ocpi_json.specs.MemberFaults.{fault_at, member_of}
use Rattle.ocpi_json.specs.Members.{◌>>=◌, each}
use Rattle.ocpi_json.specs.declared.expected.Expected.TheVariants as expected
use Rattle.ocpi_json.specs.declared.member_fault.MemberFault.{MemberFault}
use Rattle.ocpi_json.specs.declared.name.Name.TheVariants as name
use Rattle.ocpi_types.specs.Config.{operator_among, provider_among, has_currency_among, alike_rows}
use Rattle.ocpi_types.specs.Currency.{a_currency}
use Rattle.ocpi_types.specs.Different.{all_different, doubled}
use Rattle.ocpi_types.specs.Members.{ensure}
use Rattle.ocpi_types.specs.Party.{a_party, party_of}
use Rattle.ocpi_types.specs.Zone.{a_zone}
use Rattle.ocpi_types.specs.declared.config.Limits.{Limits}
use Rattle.ocpi_types.specs.declared.config.Operator.{Operator}
use Rattle.ocpi_types.specs.declared.config.PairLimit.{PairLimit}
use Rattle.ocpi_types.specs.declared.config.Platform.{Platform}
use Rattle.ocpi_types.specs.declared.config.Provider.{Provider}
use Rattle.ocpi_types.specs.declared.config.ProviderLimit.{ProviderLimit}
use Rattle.ocpi_types.specs.declared.config.parts.Listed.{Listed}
use Rattle.ocpi_types.specs.declared.party.Party.{Party}

-- ---- members that name what is configured

unfoldable pub currency_at : List (List ℕ) → Data → Result (List ℕ) MemberFault
currency_at currencies node = do
  currency ← required a_currency name.Currency node
  _ ← ensure (has_currency_among currencies currency) (fault_at (member_of name.Currency) expected.ListedCurrency)
  Ok currency

unfoldable pub operator_at : Listed → Data → Result Party MemberFault
operator_at listed node = do
  operator ← required a_party name.Operator node
  _ ← ensure (is_some (operator_among listed.operators operator)) (fault_at (member_of name.Operator) expected.ListedOperator)
  Ok operator

unfoldable pub provider_at : Listed → Data → Result Party MemberFault
provider_at listed node = do
  provider ← required a_party name.Provider node
  _ ← ensure (is_some (provider_among listed.providers provider)) (fault_at (member_of name.Provider) expected.ListedProvider)
  Ok provider

abbrev pub has_party : Listed → Party → Bool
has_party listed party = is_some (operator_among listed.operators party) || is_some (provider_among listed.providers party)

abbrev pub if_listed : Listed → Party → Option Party
if_listed listed party = if has_party listed party then Some party else None

-- an item of a platform's list of parties
abbrev pub listed_party : Listed → Kind Party
listed_party listed = record { must_be = expected.ListedParty; means = λ d. option_and_then (if_listed listed) (as_parsed party_of d) }

-- ---- items of the lists: a provider may have as many limits and a platform as many parties as a text has room for

unfoldable pub operator_entry_at : Data → Result Operator MemberFault
operator_entry_at node = do
  party ← required a_party name.Party node
  zone ← required a_zone name.Zone node
  Ok (record { party = party; zone = zone })

unfoldable pub provider_limit_at : List (List ℕ) → Data → Result ProviderLimit MemberFault
provider_limit_at currencies node = do
  currency ← currency_at currencies node
  limit ← required (whole 0 1_000_000_000_000_000) name.Limit node
  hold ← required (whole 1 1_000_000_000_000) name.Hold node
  Ok (record { currency = currency; limit = limit; hold = hold })

unfoldable pub provider_entry_at : List (List ℕ) → Data → Result Provider MemberFault
provider_entry_at currencies node = do
  party ← required a_party name.Party node
  items ← list_or_empty 1_048_576 name.Limits node
  limits ← each name.Limits (provider_limit_at currencies) items
  _ ← ensure (all_different alike_rows limits) (doubled name.Limits)
  Ok (record { party = party; limits = limits })

unfoldable pub platform_at : Listed → Data → Result Platform MemberFault
platform_at listed node = do
  called ← required (ascii 36) name.Name node
  items ← list_or_empty 1_048_576 name.Parties node
  parties ← each_of (listed_party listed) name.Parties 0 items
  hub ← optional flag name.Hub node
  Ok (record { name = called; parties = parties; hub = unwrap_or hub false })

unfoldable pub pair_limit_at : Listed → Data → Result PairLimit MemberFault
pair_limit_at listed node = do
  operator ← operator_at listed node
  provider ← provider_at listed node
  currency ← currency_at listed.currencies node
  limit ← required (whole 0 1_000_000_000_000_000) name.Limit node
  Ok (record { operator = operator; provider = provider; currency = currency; limit = limit })

-- ---- how many of each the house keeps

abbrev pub largest : Limits
largest = record { cdrs = 100_000; tariffs = 10_000; entries = 10_000_000; order = 10_000_000; periods = 10_000 }

unfoldable pub limits_at : Data → Result Limits MemberFault
limits_at node = do
  cdrs ← optional (whole 1 100_000) name.Cdrs node
  tariffs ← optional (whole 1 10_000) name.Tariffs node
  entries ← optional (whole 1 10_000_000) name.Entries node
  order ← optional (whole 1 10_000_000) name.Order node
  periods ← optional (whole 1 10_000) name.Periods node
  Ok (record {
    cdrs = unwrap_or cdrs 100_000;
    tariffs = unwrap_or tariffs 10_000;
    entries = unwrap_or entries 10_000_000;
    order = unwrap_or order 10_000_000;
    periods = unwrap_or periods 10_000;
  })
