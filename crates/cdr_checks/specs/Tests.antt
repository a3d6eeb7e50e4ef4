-- The tests of a request: all conditions that it has to meet, each with the refusal if it does not.
use Rattle.std.specs.Prelude.{◌≡◌, ℕ, ◌==◌, Bool, true, not, ◌&&◌, ◌||◌, List, [], ◌∷◌, Option, Some, None, Ok, Err, nat_le, pos, if◌then◌else◌}
use Rattle.std.specs.List.{list_all, list_any}
use Rattle.jiff.specs.Types.{TimeZone as PlainZone}
use Rattle.ocpi_types.specs.declared.cdr.Cdr.{Cdr}
use Rattle.ocpi_types.specs.declared.config.Config.{Config}
use Rattle.ocpi_types.specs.declared.config.Operator.{Operator}
use Rattle.ocpi_types.specs.declared.refusal.Refusal.{Refusal}
use Rattle.ocpi_types.specs.declared.refusal.Refusal.TheVariants.{UnknownParty, NotYours, WrongCurrency, BadDates, TariffNotGiven, UnsupportedRestriction, Reservation, EnergyMismatch, AmountTooLarge, CostMismatch}
use Rattle.ocpi_types.specs.declared.tariff.Tariff.{Tariff}
use Rattle.ocpi_types.specs.declared.token.Token.{Token}
use Rattle.ocpi_types.specs.Cdr.{is_credit}
use Rattle.ocpi_types.specs.Config.{has_currency, is_hub, is_operator, is_party, is_provider, may_act_for, operator_of}
use Rattle.ocpi_types.specs.Refusal.{refusal_number}
use Rattle.cdr_rating.specs.Price.{rounded_amount}
use Rattle.cdr_checks.specs.declared.request.Ask.{Ask}
use Rattle.cdr_checks.specs.declared.request.Ask.TheVariants as ask
use Rattle.cdr_checks.specs.declared.request.Authorize.{Authorize}
use Rattle.cdr_checks.specs.declared.request.Command.{Command}
use Rattle.cdr_checks.specs.declared.request.ExposureOf.{ExposureOf}
use Rattle.cdr_checks.specs.declared.request.Find.{Find}
use Rattle.cdr_checks.specs.declared.request.Release.{Release}
use Rattle.cdr_checks.specs.declared.request.Request.{Request}
use Rattle.cdr_checks.specs.declared.request.Settlement.{Settlement}
use Rattle.cdr_checks.specs.declared.request.StatementOf.{StatementOf}
use Rattle.cdr_checks.specs.Admission.{admission}
use Rattle.cdr_checks.specs.CdrConditions.{has_energy_of_periods, is_within_tolerance}
use Rattle.cdr_checks.specs.Conditions.{has_dates_in_order, has_no_reservation, has_one_currency, has_supported_tariffs, has_tariffs_given, is_supported}

-- a test, and the refusal if it does not hold
pub record Test : Type 0 where
  pub holds : Bool
  pub refusal : Refusal

abbrev pub test : Bool → Refusal → Test
test holds refusal = record { holds = holds; refusal = refusal }

-- ---- a CDR

-- what is asked of a CDR that is no Credit CDR, with its price in the zone
abbrev pub rated_tests : Config → PlainZone → Cdr → List Test
rated_tests config zone cdr =
    test (has_one_currency cdr) WrongCurrency
    ∷ test (has_dates_in_order cdr) BadDates
    ∷ test (has_tariffs_given cdr) TariffNotGiven
    ∷ test (has_supported_tariffs cdr) UnsupportedRestriction
    ∷ test (has_no_reservation cdr) Reservation
    ∷ test (has_energy_of_periods cdr) EnergyMismatch
    ∷ test (nat_le (rounded_amount cdr zone) 1_000_000_000_000) AmountTooLarge
    ∷ test (is_within_tolerance config.tolerance cdr.total_cost (pos (rounded_amount cdr zone))) (CostMismatch (pos (rounded_amount cdr zone)))
    ∷ []

-- a Credit CDR is asked nothing of its session; where the operator is not configured there is no zone
abbrev pub session_tests : Config → Option Operator → Cdr → List Test
session_tests config None cdr = []
session_tests config (Some operator) cdr = if is_credit cdr then [] else rated_tests config operator.zone cdr

abbrev pub cdr_tests : Config → List ℕ → Cdr → List Test
cdr_tests config platform cdr =
    test (is_operator config cdr.operator) UnknownParty
    ∷ test (is_provider config cdr.cdr_token.provider) UnknownParty
    ∷ test (may_act_for config platform cdr.operator) NotYours
    ∷ test (has_currency config cdr.currency) WrongCurrency
    ∷ session_tests config (operator_of config cdr.operator) cdr

-- ---- the other requests

abbrev pub put_tariff_tests : Config → List ℕ → Tariff → List Test
put_tariff_tests config platform tariff =
    test (is_operator config tariff.operator) UnknownParty
    ∷ test (may_act_for config platform tariff.operator) NotYours
    ∷ test (has_currency config tariff.currency) WrongCurrency
    ∷ test (is_supported tariff) UnsupportedRestriction
    ∷ []

abbrev pub put_token_tests : Config → List ℕ → Token → List Test
put_token_tests config platform token =
    test (is_provider config token.provider) UnknownParty ∷ test (may_act_for config platform token.provider) NotYours ∷ []

abbrev pub authorize_tests : Config → List ℕ → Authorize → List Test
authorize_tests config platform authorize =
    test (is_operator config authorize.operator) UnknownParty
    ∷ test (is_provider config authorize.provider) UnknownParty
    ∷ test (may_act_for config platform authorize.operator) NotYours
    ∷ test (has_currency config authorize.currency) WrongCurrency
    ∷ []

abbrev pub release_tests : Config → List ℕ → Release → List Test
release_tests config platform release =
    test (is_operator config release.operator) UnknownParty
    ∷ test (is_provider config release.provider) UnknownParty
    ∷ test (may_act_for config platform release.operator) NotYours
    ∷ []

abbrev pub exposure_tests : Config → List ℕ → ExposureOf → List Test
exposure_tests config platform exposure =
    test (is_provider config exposure.provider) UnknownParty
    ∷ test (may_act_for config platform exposure.provider) NotYours
    ∷ test (has_currency config exposure.currency) WrongCurrency
    ∷ []

abbrev pub settle_tests : Config → List ℕ → Settlement → List Test
settle_tests config platform settlement =
    test (is_provider config settlement.provider) UnknownParty
    ∷ test (is_hub config platform) NotYours
    ∷ test (has_currency config settlement.currency) WrongCurrency
    ∷ []

abbrev pub find_tests : Config → List ℕ → Find → List Test
find_tests config platform find =
    test (is_operator config find.operator) UnknownParty ∷ test (may_act_for config platform find.operator) NotYours ∷ []

abbrev pub statement_tests : Config → List ℕ → StatementOf → List Test
statement_tests config platform statement =
    test (is_party config statement.party) UnknownParty ∷ test (may_act_for config platform statement.party) NotYours ∷ []

-- all tests of what is asked
abbrev pub tests : Config → List ℕ → Ask → List Test
tests config platform (ask.PutTariff tariff) = put_tariff_tests config platform tariff
tests config platform (ask.PutToken token) = put_token_tests config platform token
tests config platform (ask.Authorize authorize) = authorize_tests config platform authorize
tests config platform (ask.Release release) = release_tests config platform release
tests config platform (ask.Post cdr) = cdr_tests config platform cdr
tests config platform (ask.Close close) = test (is_hub config platform) NotYours ∷ []
tests config platform (ask.Settle settlement) = settle_tests config platform settlement
tests config platform (ask.Exposure exposure) = exposure_tests config platform exposure
tests config platform (ask.Find find) = find_tests config platform find
tests config platform (ask.Statement statement) = statement_tests config platform statement

-- ---- the first refusal by number

-- a test with the refusal's number does not hold, and none with a smaller number
pub record IsFirst (asked : List Test) (refusal : Refusal) : Type 0 where
  pub fails : list_any (λ t. not t.holds && (refusal_number t.refusal == refusal_number refusal)) asked ≡ true
  pub no_smaller : list_all (λ t. t.holds || nat_le (refusal_number refusal) (refusal_number t.refusal)) asked ≡ true

-- if a request is admitted, all its tests hold
abbrev pub AdmittedPassTheirTests : Type 0
AdmittedPassTheirTests =
    (config : Config) (request : Request) (command : Command) → admission config request ≡ Ok command →
    list_all (λ t. t.holds) (tests config request.platform request.ask) ≡ true

-- if it is refused, it is by the first that does not hold, by the numbers of refusals
abbrev pub RefusedByTheFirst : Type 0
RefusedByTheFirst =
    (config : Config) (request : Request) (refusal : Refusal) → admission config request ≡ Err refusal →
    IsFirst (tests config request.platform request.ask) refusal
