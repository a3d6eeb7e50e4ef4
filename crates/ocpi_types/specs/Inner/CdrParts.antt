-- The members of a CDR in groups, as they are read.
use Rattle.std.specs.Prelude.{◌≡◌, true, ◌||◌, is_some, pos, int_le, nat_le, length, Result, Ok}
use Rattle.std.specs.List.{list_all}
use Rattle.json.specs.Json.{Json as Data}
use Rattle.ocpi_json.specs.Fields.{ascii, moment, number, optional, required}
use Rattle.ocpi_json.specs.MemberFaults.{fault_at, member_of}
use Rattle.ocpi_json.specs.Members.{◌>>=◌}
use Rattle.ocpi_json.specs.declared.expected.Expected.TheVariants as expected
use Rattle.ocpi_json.specs.declared.member_fault.MemberFault.{MemberFault}
use Rattle.ocpi_json.specs.declared.name.Name.TheVariants as name
use Rattle.ocpi_types.specs.Cdr.{session_token_at, tariffs_at, periods_at, cost_at, credit_at, fault_of_volume}
use Rattle.ocpi_types.specs.CdrToken.{an_auth_method}
use Rattle.ocpi_types.specs.ChargingPeriod.{has_volumes_in_range}
use Rattle.ocpi_types.specs.Currency.{a_currency}
use Rattle.ocpi_types.specs.Members.{true_or}
use Rattle.ocpi_types.specs.Party.{party_at}
use Rattle.ocpi_types.specs.declared.cdr.Cdr.{Cdr}
use Rattle.ocpi_types.specs.declared.cdr.reading.Authorised.{Authorised}
use Rattle.ocpi_types.specs.declared.cdr.reading.CdrMembers.{CdrMembers}
use Rattle.ocpi_types.specs.declared.cdr.reading.Opening.{Opening}
use Rattle.ocpi_types.specs.declared.cdr.reading.Totals.{Totals}

unfoldable pub opening_at : Data → Result Opening MemberFault
opening_at node = do
  operator ← party_at node
  id ← required (ascii 39) name.Id node
  start_date_time ← required moment name.StartDateTime node
  end_date_time ← required moment name.EndDateTime node
  Ok (record { operator = operator; id = id; start_date_time = start_date_time; end_date_time = end_date_time })

unfoldable pub authorised_at : Data → Result Authorised MemberFault
authorised_at node = do
  cdr_token ← session_token_at node
  auth_method ← required an_auth_method name.AuthMethod node
  authorization_reference ← optional (ascii 36) name.AuthorizationReference node
  currency ← required a_currency name.Currency node
  Ok (record {
    cdr_token = cdr_token;
    auth_method = auth_method;
    authorization_reference = authorization_reference;
    currency = currency;
  })

unfoldable pub totals_at : Data → Result Totals MemberFault
totals_at node = do
  total_cost ← cost_at node
  total_energy ← required number name.TotalEnergy node
  total_time ← required number name.TotalTime node
  credit ← credit_at node
  last_updated ← required moment name.LastUpdated node
  Ok (record {
    total_cost = total_cost;
    total_energy = total_energy;
    total_time = total_time;
    credit = credit;
    last_updated = last_updated;
  })

unfoldable pub parts_at : Data → Result CdrMembers MemberFault
parts_at node = do
  opening ← opening_at node
  authorised ← authorised_at node
  tariffs ← tariffs_at node
  charging_periods ← periods_at node
  totals ← totals_at node
  Ok (record { opening = opening; authorised = authorised; tariffs = tariffs; charging_periods = charging_periods; totals = totals })

-- the CDR of these members, in which what is tested between them holds
abbrev pub cdr_with : (parts : CdrMembers)
    → (is_some parts.totals.credit || nat_le (length parts.opening.id) 36) ≡ true
    → (is_some parts.totals.credit || list_all has_volumes_in_range parts.charging_periods) ≡ true
    → (is_some parts.totals.credit || int_le (pos 0) parts.totals.total_energy) ≡ true
    → Cdr
cdr_with parts id_in_range volumes_in_range energy_in_range = record {
  operator = parts.opening.operator;
  id = parts.opening.id;
  start_date_time = parts.opening.start_date_time;
  end_date_time = parts.opening.end_date_time;
  cdr_token = parts.authorised.cdr_token;
  auth_method = parts.authorised.auth_method;
  authorization_reference = parts.authorised.authorization_reference;
  currency = parts.authorised.currency;
  tariffs = parts.tariffs;
  charging_periods = parts.charging_periods;
  total_cost = parts.totals.total_cost;
  total_energy = parts.totals.total_energy;
  total_time = parts.totals.total_time;
  credit = parts.totals.credit;
  last_updated = parts.totals.last_updated;
  id_in_range = id_in_range;
  volumes_in_range = volumes_in_range;
  energy_in_range = energy_in_range;
}

-- it, or the first that does not hold
abbrev pub cdr_of : CdrMembers → Result Cdr MemberFault
cdr_of parts = do
  id_in_range ← true_or (fault_at (member_of name.Id) expected.CdrId) (is_some parts.totals.credit || nat_le (length parts.opening.id) 36)
  volumes_in_range ← true_or (fault_of_volume parts.charging_periods) (is_some parts.totals.credit || list_all has_volumes_in_range parts.charging_periods)
  energy_in_range ← true_or (fault_at (member_of name.TotalEnergy) expected.CdrNumber) (is_some parts.totals.credit || int_le (pos 0) parts.totals.total_energy)
  Ok (cdr_with parts id_in_range volumes_in_range energy_in_range)

unfoldable pub cdr_in_parts : Data → Result Cdr MemberFault
cdr_in_parts node = do
  parts ← parts_at node
  cdr_of parts
