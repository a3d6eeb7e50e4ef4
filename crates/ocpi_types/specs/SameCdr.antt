-- When two CDRs have the same content: once the letters of their parties, ids and references are folded, they are equal.
use Rattle.std.specs.Prelude.{◌≡◌, ◌↔◌, IsTrue, map}
use Rattle.std.specs.Option.{option_map}
use Rattle.ocpi_json.specs.Folded.{folded}
use Rattle.ocpi_types.specs.SameTariff.{folded_party, folded_tariff}
use Rattle.ocpi_types.specs.declared.cdr.Cdr.{Cdr}
use Rattle.ocpi_types.specs.declared.cdr_token.CdrToken.{CdrToken}
use Rattle.ocpi_types.specs.declared.charging_period.ChargingPeriod.{ChargingPeriod}
unfoldable pub use Rattle.ocpi_types.specs.Inner.SameCdr.{same_cdr}

abbrev pub folded_cdr_token : CdrToken → CdrToken
folded_cdr_token token =
    record token { provider = folded_party token.provider; uid = folded token.uid; contract_id = folded token.contract_id }

abbrev pub folded_period : ChargingPeriod → ChargingPeriod
folded_period period = record period { tariff_id = option_map folded period.tariff_id }

-- the two agree in each member, once the letters of their parties, ids and references are folded
pub record AreEqualFolded (a b : Cdr) : Type 0 where
  pub operator : folded_party a.operator ≡ folded_party b.operator
  pub id : folded a.id ≡ folded b.id
  pub start_date_time : a.start_date_time ≡ b.start_date_time
  pub end_date_time : a.end_date_time ≡ b.end_date_time
  pub cdr_token : folded_cdr_token a.cdr_token ≡ folded_cdr_token b.cdr_token
  pub auth_method : a.auth_method ≡ b.auth_method
  pub authorization_reference : option_map folded a.authorization_reference ≡ option_map folded b.authorization_reference
  pub currency : a.currency ≡ b.currency
  pub tariffs : map folded_tariff a.tariffs ≡ map folded_tariff b.tariffs
  pub charging_periods : map folded_period a.charging_periods ≡ map folded_period b.charging_periods
  pub total_cost : a.total_cost ≡ b.total_cost
  pub total_energy : a.total_energy ≡ b.total_energy
  pub total_time : a.total_time ≡ b.total_time
  pub credit : option_map folded a.credit ≡ option_map folded b.credit
  pub last_updated : a.last_updated ≡ b.last_updated

abbrev pub SameCdrsAreEqualFolded : Type 0
SameCdrsAreEqualFolded = (a b : Cdr) → IsTrue (same_cdr a b) ↔ AreEqualFolded a b
