-- Reading members in groups is reading them one after another.
use Rattle.std.specs.Prelude.{unwrap_or}
use Rattle.std.proofs.Common.{◌≡◌, ℕ, List, Result, Ok, Err, refl, ◌∙◌}
use Rattle.json.specs.Json.{Json as Data}
use Rattle.ocpi_json.specs.Fields.{ascii, clock, date, moment, number, optional, required, text, whole}
use Rattle.ocpi_json.specs.Members.{◌>>=◌}
use Rattle.ocpi_json.specs.declared.member_fault.MemberFault.{MemberFault}
use Rattle.ocpi_json.specs.declared.name.Name.TheVariants as name
use Rattle.ocpi_types.specs.Cdr.{cdr_at, session_token_at, tariffs_at, periods_at, cost_at, credit_at}
use Rattle.ocpi_types.specs.CdrToken.{an_auth_method}
use Rattle.ocpi_types.specs.ConfigText.{config_at, listed_at, platforms_at, house_limits_at, pair_limits_at, credit_window_at}
use Rattle.ocpi_types.specs.Currency.{a_currency}
use Rattle.ocpi_types.specs.Inner.CdrParts.{opening_at, authorised_at, totals_at, parts_at, cdr_of, cdr_in_parts}
use Rattle.ocpi_types.specs.Inner.ConfigStated.{config_from, stated_at, config_in_parts}
use Rattle.ocpi_types.specs.Inner.RestrictionParts.{times_at, bounds_at, restrictions_in_parts}
use Rattle.ocpi_types.specs.Members.{quantity}
use Rattle.ocpi_types.specs.Party.{party_at}
use Rattle.ocpi_types.specs.Restrictions.{days_at, electric_bounds_at, restrictions_at, seconds}
use Rattle.ocpi_types.specs.declared.cdr.Cdr.{Cdr}
use Rattle.ocpi_types.specs.declared.cdr.reading.Authorised.{Authorised}
use Rattle.ocpi_types.specs.declared.cdr.reading.CdrMembers.{CdrMembers}
use Rattle.ocpi_types.specs.declared.cdr.reading.Opening.{Opening}
use Rattle.ocpi_types.specs.declared.cdr.reading.Totals.{Totals}
use Rattle.ocpi_types.specs.declared.charging_period.ChargingPeriod.{ChargingPeriod}
use Rattle.ocpi_types.specs.declared.config.Config.{Config}
use Rattle.ocpi_types.specs.declared.config.parts.Listed.{Listed}
use Rattle.ocpi_types.specs.declared.restrictions.Bounds.{Bounds}
use Rattle.ocpi_types.specs.declared.restrictions.Restrictions.{Restrictions}
use Rattle.ocpi_types.specs.declared.restrictions.Times.{Times}
use Rattle.ocpi_types.specs.declared.tariff.Tariff.{Tariff}

-- four members as a group, and what comes behind them
four : {A B C D P R : Type 0} (a : Result A MemberFault) (b : Result B MemberFault) (c : Result C MemberFault) (d : Result D MemberFault)
    (join : A → B → C → D → P) (flat : A → B → C → D → Result R MemberFault) (rest : P → Result R MemberFault)
    → ((x : A) (y : B) (z : C) (w : D) → flat x y z w ≡ rest (join x y z w))
    → a >>= (λ x. b >>= (λ y. c >>= (λ z. d >>= (λ w. flat x y z w))))
    ≡ (a >>= (λ x. b >>= (λ y. c >>= (λ z. d >>= (λ w. Ok (join x y z w)))))) >>= rest
four (Err n) b c d join flat rest h = refl
four (Ok x) (Err n) c d join flat rest h = refl
four (Ok x) (Ok y) (Err n) d join flat rest h = refl
four (Ok x) (Ok y) (Ok z) (Err n) join flat rest h = refl
four (Ok x) (Ok y) (Ok z) (Ok w) join flat rest h = h x y z w

-- five members as a group, and what comes behind them
five : {A B C D E P R : Type 0} (a : Result A MemberFault) (b : Result B MemberFault) (c : Result C MemberFault) (d : Result D MemberFault) (e : Result E MemberFault)
    (join : A → B → C → D → E → P) (flat : A → B → C → D → E → Result R MemberFault) (rest : P → Result R MemberFault)
    → ((x : A) (y : B) (z : C) (w : D) (v : E) → flat x y z w v ≡ rest (join x y z w v))
    → a >>= (λ x. b >>= (λ y. c >>= (λ z. d >>= (λ w. e >>= (λ v. flat x y z w v)))))
    ≡ (a >>= (λ x. b >>= (λ y. c >>= (λ z. d >>= (λ w. e >>= (λ v. Ok (join x y z w v))))))) >>= rest
five (Err n) b c d e join flat rest h = refl
five (Ok x) (Err n) c d e join flat rest h = refl
five (Ok x) (Ok y) (Err n) d e join flat rest h = refl
five (Ok x) (Ok y) (Ok z) (Err n) e join flat rest h = refl
five (Ok x) (Ok y) (Ok z) (Ok w) (Err n) join flat rest h = refl
five (Ok x) (Ok y) (Ok z) (Ok w) (Ok v) join flat rest h = h x y z w v

-- what comes behind a value may be read in another way
behind : {A R : Type 0} (a : Result A MemberFault) (flat rest : A → Result R MemberFault) → ((x : A) → flat x ≡ rest x) → a >>= flat ≡ a >>= rest
behind (Err n) flat rest h = refl
behind (Ok x) flat rest h = h x

-- ---- restrictions

abbrev restrictions_of : Times → Bounds → Data → Result Restrictions MemberFault
restrictions_of times bounds node = do
  day_of_week ← days_at node
  reservation ← optional text name.Reservation node
  electric ← electric_bounds_at node
  Ok (record {
    start_time = times.start_time;
    end_time = times.end_time;
    start_date = times.start_date;
    end_date = times.end_date;
    min_kwh = bounds.min_kwh;
    max_kwh = bounds.max_kwh;
    min_duration = bounds.min_duration;
    max_duration = bounds.max_duration;
    day_of_week = day_of_week;
    reservation = reservation;
    electric = electric;
  })

abbrev bounds_then : Times → Data → Result Restrictions MemberFault
bounds_then times node = do
  min_kwh ← optional quantity name.MinKwh node
  max_kwh ← optional quantity name.MaxKwh node
  min_duration ← optional seconds name.MinDuration node
  max_duration ← optional seconds name.MaxDuration node
  restrictions_of times (record { min_kwh = min_kwh; max_kwh = max_kwh; min_duration = min_duration; max_duration = max_duration }) node

bounds_first : (times : Times) (node : Data) → bounds_then times node ≡ bounds_at node >>= (λ bounds. restrictions_of times bounds node)
unfolding bounds_at
bounds_first times node =
    four (optional quantity name.MinKwh node) (optional quantity name.MaxKwh node) (optional seconds name.MinDuration node) (optional seconds name.MaxDuration node)
    (λ a b c d. record { min_kwh = a; max_kwh = b; min_duration = c; max_duration = d })
    (λ a b c d. restrictions_of times (record { min_kwh = a; max_kwh = b; min_duration = c; max_duration = d }) node)
    (λ bounds. restrictions_of times bounds node)
    (λ a b c d. refl)

pub restrictions : (node : Data) → restrictions_at node ≡ restrictions_in_parts node
unfolding restrictions_at restrictions_in_parts times_at
restrictions node =
    four (optional clock name.StartTime node) (optional clock name.EndTime node) (optional date name.StartDate node) (optional date name.EndDate node)
    (λ a b c d. record { start_time = a; end_time = b; start_date = c; end_date = d })
    (λ a b c d. bounds_then (record { start_time = a; end_time = b; start_date = c; end_date = d }) node)
    (λ times. bounds_at node >>= (λ bounds. restrictions_of times bounds node))
    (λ a b c d. bounds_first (record { start_time = a; end_time = b; start_date = c; end_date = d }) node)

-- ---- CDRs

abbrev parts : Opening → Authorised → List Tariff → List ChargingPeriod → Totals → CdrMembers
parts opening authorised tariffs charging_periods totals =
    record { opening = opening; authorised = authorised; tariffs = tariffs; charging_periods = charging_periods; totals = totals }

abbrev totals_then : Opening → Authorised → List Tariff → List ChargingPeriod → Data → Result Cdr MemberFault
totals_then opening authorised tariffs charging_periods node = do
  total_cost ← cost_at node
  total_energy ← required number name.TotalEnergy node
  total_time ← required number name.TotalTime node
  credit ← credit_at node
  last_updated ← required moment name.LastUpdated node
  cdr_of (parts opening authorised tariffs charging_periods (record { total_cost = total_cost; total_energy = total_energy; total_time = total_time; credit = credit; last_updated = last_updated }))

totals_last : (opening : Opening) (authorised : Authorised) (tariffs : List Tariff) (periods : List ChargingPeriod) (node : Data) →
    totals_then opening authorised tariffs periods node ≡ totals_at node >>= (λ totals. cdr_of (parts opening authorised tariffs periods totals))
unfolding totals_at
totals_last opening authorised tariffs periods node =
    five (cost_at node) (required number name.TotalEnergy node) (required number name.TotalTime node) (credit_at node) (required moment name.LastUpdated node)
    (λ a b c d e. record { total_cost = a; total_energy = b; total_time = c; credit = d; last_updated = e })
    (λ a b c d e. cdr_of (parts opening authorised tariffs periods (record { total_cost = a; total_energy = b; total_time = c; credit = d; last_updated = e })))
    (λ totals. cdr_of (parts opening authorised tariffs periods totals))
    (λ a b c d e. refl)

abbrev lists_then : Opening → Authorised → Data → Result Cdr MemberFault
lists_then opening authorised node = do
  tariffs ← tariffs_at node
  charging_periods ← periods_at node
  totals_then opening authorised tariffs charging_periods node

abbrev lists_and_totals : Opening → Authorised → Data → Result Cdr MemberFault
lists_and_totals opening authorised node = do
  tariffs ← tariffs_at node
  charging_periods ← periods_at node
  totals ← totals_at node
  cdr_of (parts opening authorised tariffs charging_periods totals)

lists_first : (opening : Opening) (authorised : Authorised) (node : Data) → lists_then opening authorised node ≡ lists_and_totals opening authorised node
lists_first opening authorised node =
    behind (tariffs_at node)
    (λ tariffs. periods_at node >>= (λ periods. totals_then opening authorised tariffs periods node))
    (λ tariffs. periods_at node >>= (λ periods. totals_at node >>= (λ totals. cdr_of (parts opening authorised tariffs periods totals))))
    (λ tariffs. behind (periods_at node)
    (λ periods. totals_then opening authorised tariffs periods node)
    (λ periods. totals_at node >>= (λ totals. cdr_of (parts opening authorised tariffs periods totals)))
    (λ periods. totals_last opening authorised tariffs periods node))

abbrev authorised_then : Opening → Data → Result Cdr MemberFault
authorised_then opening node = do
  cdr_token ← session_token_at node
  auth_method ← required an_auth_method name.AuthMethod node
  reference ← optional (ascii 36) name.AuthorizationReference node
  currency ← required a_currency name.Currency node
  lists_then opening (record { cdr_token = cdr_token; auth_method = auth_method; authorization_reference = reference; currency = currency }) node

authorised_first : (opening : Opening) (node : Data) → authorised_then opening node ≡ authorised_at node >>= (λ authorised. lists_and_totals opening authorised node)
unfolding authorised_at
authorised_first opening node =
    four (session_token_at node) (required an_auth_method name.AuthMethod node) (optional (ascii 36) name.AuthorizationReference node) (required a_currency name.Currency node)
    (λ a b c d. record { cdr_token = a; auth_method = b; authorization_reference = c; currency = d })
    (λ a b c d. lists_then opening (record { cdr_token = a; auth_method = b; authorization_reference = c; currency = d }) node)
    (λ authorised. lists_and_totals opening authorised node)
    (λ a b c d. lists_first opening (record { cdr_token = a; auth_method = b; authorization_reference = c; currency = d }) node)

in_groups : (node : Data) → cdr_at node ≡ opening_at node >>= (λ opening. authorised_at node >>= (λ authorised. lists_and_totals opening authorised node))
unfolding cdr_at opening_at
in_groups node =
    four (party_at node) (required (ascii 39) name.Id node) (required moment name.StartDateTime node) (required moment name.EndDateTime node)
    (λ a b c d. record { operator = a; id = b; start_date_time = c; end_date_time = d })
    (λ a b c d. authorised_then (record { operator = a; id = b; start_date_time = c; end_date_time = d }) node)
    (λ opening. authorised_at node >>= (λ authorised. lists_and_totals opening authorised node))
    (λ a b c d. authorised_first (record { operator = a; id = b; start_date_time = c; end_date_time = d }) node)

pub cdr : (node : Data) → cdr_at node ≡ cdr_in_parts node
unfolding cdr_in_parts parts_at
cdr node =
    in_groups node ∙
    (five (opening_at node) (authorised_at node) (tariffs_at node) (periods_at node) (totals_at node) parts
    (λ opening authorised tariffs periods totals. cdr_of (parts opening authorised tariffs periods totals)) cdr_of
    (λ opening authorised tariffs periods totals. refl))

-- ---- configurations

stated_last : (version tolerance : ℕ) (listed : Listed) (node : Data) →
    platforms_at listed node >>= (λ a. house_limits_at node >>= (λ b. pair_limits_at version listed node >>= (λ c. credit_window_at version node >>= (λ d. Ok (config_from tolerance listed (record { platforms = a; limits = b; pair_limits = c; credit_window = d }))))))
    ≡ stated_at version listed node >>= (λ stated. Ok (config_from tolerance listed stated))
unfolding stated_at
stated_last version tolerance listed node =
    four (platforms_at listed node) (house_limits_at node) (pair_limits_at version listed node) (credit_window_at version node)
    (λ a b c d. record { platforms = a; limits = b; pair_limits = c; credit_window = d })
    (λ a b c d. Ok (config_from tolerance listed (record { platforms = a; limits = b; pair_limits = c; credit_window = d })))
    (λ stated. Ok (config_from tolerance listed stated))
    (λ a b c d. refl)

abbrev stated_then : ℕ → ℕ → Listed → Data → Result Config MemberFault
stated_then version tolerance listed node = do
  platforms ← platforms_at listed node
  limits ← house_limits_at node
  pair_limits ← pair_limits_at version listed node
  credit_window ← credit_window_at version node
  Ok (config_from tolerance listed (record { platforms = platforms; limits = limits; pair_limits = pair_limits; credit_window = credit_window }))

pub config : (node : Data) → config_at node ≡ config_in_parts node
unfolding config_at config_in_parts
config node =
    behind (required (whole 1 2) name.Version node)
    (λ version. optional (whole 0 1_000_000_000_000) name.Tolerance node >>= (λ tolerance. listed_at node >>= (λ listed. stated_then version (unwrap_or tolerance 100) listed node)))
    (λ version. optional (whole 0 1_000_000_000_000) name.Tolerance node >>= (λ tolerance. listed_at node >>= (λ listed. stated_at version listed node >>= (λ stated. Ok (config_from (unwrap_or tolerance 100) listed stated)))))
    (λ version. behind (optional (whole 0 1_000_000_000_000) name.Tolerance node)
    (λ tolerance. listed_at node >>= (λ listed. stated_then version (unwrap_or tolerance 100) listed node))
    (λ tolerance. listed_at node >>= (λ listed. stated_at version listed node >>= (λ stated. Ok (config_from (unwrap_or tolerance 100) listed stated))))
    (λ tolerance. behind (listed_at node)
    (λ listed. stated_then version (unwrap_or tolerance 100) listed node)
    (λ listed. stated_at version listed node >>= (λ stated. Ok (config_from (unwrap_or tolerance 100) listed stated)))
    (λ listed. stated_last version (unwrap_or tolerance 100) listed node)))
