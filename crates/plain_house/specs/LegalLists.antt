-- What is true of each legal list of events, as it is of the entries of books and accounts.
use Rattle.std.specs.Prelude.{◌≡◌, ◌≤◌, ◌<◌, ◌^◌, ◌&&◌, ℕ, length, map, ℤ, pos, neg_ℤ, List, ◌∷◌, ◌++◌, true, false, Some, None}
use Rattle.std.specs.List.{list_all}
use Rattle.ocpi_types.specs.declared.cdr.Cdr.{Cdr}
use Rattle.ocpi_types.specs.declared.config.Config.{Config}
use Rattle.ocpi_types.specs.declared.config.Operator.{Operator}
use Rattle.ocpi_types.specs.declared.party.Party.{Party}
use Rattle.ocpi_types.specs.Cdr.{is_credit}
use Rattle.ocpi_types.specs.Config.{alike_operators, alike_providers, has_currency, is_operator, is_provider, limit_of, operator_of, pair_limit_of}
use Rattle.ocpi_types.specs.Different.{all_different}
use Rattle.cdr_checks.specs.Checked.{IsCostOf}
use Rattle.netting_positions.specs.Netting.{IsBalanced, is_configured, net_position, parties, total, total_size}
use Rattle.plain_house.specs.declared.entry.AccountEntry.{AccountEntry}
use Rattle.plain_house.specs.declared.entry.BookEntry.{BookEntry}
use Rattle.plain_house.specs.declared.event.Event.{Event}
use Rattle.plain_house.specs.declared.event.Event.TheVariants as event
use Rattle.plain_house.specs.Booked.{Booked, booked_as, is_credited}
use Rattle.plain_house.specs.Entries.{account_entries, book_entries, period_of}
use Rattle.plain_house.specs.Exposure.{exposure_of, of_pair, of_provider}
use Rattle.plain_house.specs.House.{positions_in}
use Rattle.plain_house.specs.Legal.{IsLegal}
use Rattle.plain_house.specs.Obligations.{obligations}
use Rattle.plain_house.specs.Posting.{is_in_window, meets_original, original_of}
use Rattle.plain_house.specs.Tariffs.{lacks_registered}

-- ---- credit limits

-- no exposure is above its credit limit, neither of a provider nor of a provider with one operator
pub record KeepsLimits (config : Config) (entries : List AccountEntry) : Type 0 where
  pub provider : (provider : Party) (currency : List ℕ) → exposure_of (of_provider provider currency) entries ≤ limit_of config provider currency
  pub pair : (operator provider : Party) (currency : List ℕ) (limit : ℕ) → pair_limit_of config operator provider currency ≡ Some limit → exposure_of (of_pair operator provider currency) entries ≤ limit

-- each beginning of a legal list keeps the limits
abbrev pub LegalListsKeepLimits : Type 0
LegalListsKeepLimits =
    (config : Config) (before later : List Event) → IsLegal config (before ++ later) → KeepsLimits config (account_entries before)

-- ---- what is booked

-- a CDR: it costs its price in its operator's zone, each of its tariffs is a stored version of its operator, and its id was
-- not booked before
pub record IsCharged (config : Config) (before : List BookEntry) (cdr : Cdr) (cost : ℕ) : Type 0 where
  pub operator : Operator
  pub configured : operator_of config cdr.operator ≡ Some operator
  pub priced : IsCostOf (Some cost) cdr operator.zone
  pub registered : lacks_registered cdr before ≡ false
  pub unknown : booked_as cdr.operator cdr.id before ≡ None

-- a Credit CDR that is booked in a period: it takes back the CDR that it names, of the same provider and currency, which is
-- no Credit CDR, was not credited before, and has its period in the credit window; and its id was not booked before
pub record IsTakenBack (config : Config) (before : List BookEntry) (period : ℕ) (credit : Cdr) (amount : ℤ) : Type 0 where
  pub original : Booked
  pub named : original_of credit before ≡ Some original
  pub negated : amount ≡ neg_ℤ original.amount
  pub no_credit : is_credit original.cdr ≡ false
  pub once : is_credited original.cdr.operator original.cdr.id before ≡ false
  pub in_window : is_in_window config.credit_window original.period period ≡ true
  pub same : meets_original config credit original ≡ true
  pub unknown : booked_as credit.operator credit.id before ≡ None

abbrev pub LegalCdrsAreCharged : Type 0
LegalCdrsAreCharged =
    (config : Config) (before later : List Event) (cdr : Cdr) (cost : ℕ) → IsLegal config (before ++ event.Cdr cdr cost ∷ later) →
    IsCharged config (book_entries before) cdr cost

abbrev pub LegalCreditsAreTakenBack : Type 0
LegalCreditsAreTakenBack =
    (config : Config) (before later : List Event) (credit : Cdr) (amount : ℤ) → IsLegal config (before ++ event.Credit credit amount ∷ later) →
    IsTakenBack config (book_entries before) (period_of before) credit amount

-- ---- netting

-- the obligations of each period are of configured parties and currencies, a provider's to an operator, and fit in 63 bits
pub record CanBeNetted (config : Config) (entries : List BookEntry) : Type 0 where
  pub configured : (period : ℕ) → list_all (is_configured (parties config) config.currencies) (obligations period entries) ≡ true
  pub fits : (period : ℕ) → total_size (obligations period entries) < 2 ^ 63
  -- each is of a provider, in a currency of the configuration
  pub providers : (period : ℕ) → list_all (λ obligation. is_provider config obligation.provider && has_currency config obligation.currency) (obligations period entries) ≡ true
  -- and to an operator
  pub operators : (period : ℕ) → list_all (λ obligation. is_operator config obligation.operator) (obligations period entries) ≡ true

-- with up to 64 operators of up to 100,000 CDRs each, a legal list can be netted
abbrev pub LegalListsCanBeNetted : Type 0
LegalListsCanBeNetted =
    (config : Config) (events : List Event) → length config.operators ≤ 64 → config.limits.cdrs ≤ 100_000 → IsLegal config events →
    CanBeNetted config (book_entries events)

-- in a legal list the net positions of all parties add up to 0, in each period and currency
abbrev pub LegalPositionsBalance : Type 0
LegalPositionsBalance =
    (config : Config) (events : List Event) (period : ℕ) (currency : List ℕ) →
    all_different alike_operators config.operators ≡ true → all_different alike_providers config.providers ≡ true → IsLegal config events →
    total (map (λ party. net_position party currency (obligations period (book_entries events))) (parties config)) ≡ pos 0

-- and so do those that a close answers
abbrev pub ClosedPositionsBalance : Type 0
ClosedPositionsBalance =
    (config : Config) (events : List Event) (period : ℕ) →
    all_different alike_operators config.operators ≡ true → all_different alike_providers config.providers ≡ true → IsLegal config events →
    IsBalanced (positions_in config (book_entries events) period)
