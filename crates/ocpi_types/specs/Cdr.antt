-- A charge detail record (OCPI 2.2.1, CDR object). One with `credit` true is a Credit CDR.
use Rattle.std.specs.Prelude.{ℕ, ℤ, pos, int_le, nat_le, length, List, Bool, true, false, not, ◌||◌, Option, Some, None, Result, Ok, find, is_some, option_and_then, position, unwrap_or}
use Rattle.std.specs.List.{list_all}
use Rattle.json.specs.Json.{Json as Data}
use Rattle.ocpi_json.specs.Fields.{ascii, flag, list, list_or_empty, moment, number, object, optional, required}
use Rattle.ocpi_json.specs.MemberFaults.{fault_at, member_of, seen_from, step_of}
use Rattle.ocpi_json.specs.Members.{◌>>=◌, each, inside}
use Rattle.ocpi_json.specs.declared.expected.Expected.TheVariants as expected
use Rattle.ocpi_json.specs.declared.member_fault.MemberFault.{MemberFault}
use Rattle.ocpi_json.specs.declared.name.Name.TheVariants as name
use Rattle.ocpi_types.specs.CdrToken.{an_auth_method, cdr_token_at}
use Rattle.ocpi_types.specs.ChargingPeriod.{period_at, has_volumes_in_range}
use Rattle.ocpi_types.specs.Currency.{a_currency}
use Rattle.ocpi_types.specs.Dimension.{is_in_range}
use Rattle.ocpi_types.specs.Members.{true_or}
use Rattle.ocpi_types.specs.Party.{party_at}
use Rattle.ocpi_types.specs.Tariff.{tariff_at}
use Rattle.ocpi_types.specs.declared.cdr.Cdr.{Cdr}
use Rattle.ocpi_types.specs.declared.cdr_token.CdrToken.{CdrToken}
use Rattle.ocpi_types.specs.declared.charging_period.ChargingPeriod.{ChargingPeriod}
use Rattle.ocpi_types.specs.declared.tariff.Tariff.{Tariff}

unfoldable pub session_token_at : Data → Result CdrToken MemberFault
session_token_at node = do
  object ← required object name.CdrToken node
  inside name.CdrToken (cdr_token_at object)

-- up to 10 tariffs
unfoldable pub tariffs_at : Data → Result (List Tariff) MemberFault
tariffs_at node = do
  items ← list_or_empty 10 name.Tariffs node
  each name.Tariffs tariff_at items

-- 1 to 1,000 charging periods
unfoldable pub periods_at : Data → Result (List ChargingPeriod) MemberFault
periods_at node = do
  items ← required (list 1 1000) name.ChargingPeriods node
  each name.ChargingPeriods period_at items

-- the cost without tax, in millionths of the currency unit (OCPI 2.2.1, Price object)
unfoldable pub cost_at : Data → Result ℤ MemberFault
cost_at node = do
  object ← required object name.TotalCost node
  inside name.TotalCost (required number name.ExclVat object)

-- the id of the CDR that a Credit CDR credits, which is read of a Credit CDR alone
unfoldable pub reference_at : Bool → Data → Result (Option (List ℕ)) MemberFault
reference_at false node = Ok None
reference_at true node = do
  id ← required (ascii 39) name.CreditReferenceId node
  Ok (Some id)

unfoldable pub credit_at : Data → Result (Option (List ℕ)) MemberFault
credit_at node = do
  credit ← optional flag name.Credit node
  reference_at (unwrap_or credit false) node

-- the fault at the first volume below 0
unfoldable pub fault_of_volume : List ChargingPeriod → MemberFault
fault_of_volume periods =
    seen_from (step_of name.ChargingPeriods (position (λ period. not (has_volumes_in_range period)) periods))
    (seen_from (step_of name.Dimensions
    (option_and_then (λ period. position (λ dimension. not (is_in_range dimension)) period.dimensions)
    (find (λ period. not (has_volumes_in_range period)) periods)))
    (fault_at (member_of name.Volume) expected.CdrNumber))

-- all members; and, of one that is no Credit CDR, an id of up to 36 bytes, and no volume or total energy below 0
unfoldable pub cdr_at : Data → Result Cdr MemberFault
cdr_at node = do
  operator ← party_at node
  id ← required (ascii 39) name.Id node
  start_date_time ← required moment name.StartDateTime node
  end_date_time ← required moment name.EndDateTime node
  cdr_token ← session_token_at node
  auth_method ← required an_auth_method name.AuthMethod node
  authorization_reference ← optional (ascii 36) name.AuthorizationReference node
  currency ← required a_currency name.Currency node
  tariffs ← tariffs_at node
  charging_periods ← periods_at node
  total_cost ← cost_at node
  total_energy ← required number name.TotalEnergy node
  total_time ← required number name.TotalTime node
  credit ← credit_at node
  last_updated ← required moment name.LastUpdated node
  id_in_range ← true_or (fault_at (member_of name.Id) expected.CdrId) (is_some credit || nat_le (length id) 36)
  volumes_in_range ← true_or (fault_of_volume charging_periods) (is_some credit || list_all has_volumes_in_range charging_periods)
  energy_in_range ← true_or (fault_at (member_of name.TotalEnergy) expected.CdrNumber) (is_some credit || int_le (pos 0) total_energy)
  Ok (record {
    operator = operator;
    id = id;
    start_date_time = start_date_time;
    end_date_time = end_date_time;
    cdr_token = cdr_token;
    auth_method = auth_method;
    authorization_reference = authorization_reference;
    currency = currency;
    tariffs = tariffs;
    charging_periods = charging_periods;
    total_cost = total_cost;
    total_energy = total_energy;
    total_time = total_time;
    credit = credit;
    last_updated = last_updated;
    id_in_range = id_in_range;
    volumes_in_range = volumes_in_range;
    energy_in_range = energy_in_range;
  })

abbrev pub is_credit : Cdr → Bool
is_credit cdr = is_some cdr.credit
