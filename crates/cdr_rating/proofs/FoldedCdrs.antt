-- CDRs with the letters of their parties, ids and references folded.
use Rattle.std.proofs.Common.{◌≡◌, ◌∙◌, ℕ, List, [], ◌∷◌, map, Bool, true, Option, None, Some, refl, ap, ap₂}
use Rattle.std.specs.Prelude.{◌||◌, ◌&&◌, is_some, pos, int_le, nat_le, length, option_map}
use Rattle.std.specs.List.{list_all}
use Rattle.std.proofs.Math.Bool.{Bool-set}
use Rattle.std.proofs.lemmas.List.{length-map}
use Rattle.ocpi_json.specs.Folded.{folded}
use Rattle.ocpi_types.specs.ChargingPeriod.{has_volumes_in_range}
use Rattle.ocpi_types.specs.SameCdr.{AreEqualFolded, folded_cdr_token, folded_period}
use Rattle.ocpi_types.specs.SameTariff.{folded_party, folded_tariff}
use Rattle.ocpi_types.specs.declared.cdr.Cdr.{Cdr}
use Rattle.ocpi_types.specs.declared.charging_period.ChargingPeriod.{ChargingPeriod}
use mathlib.Core.HLevel.{is_prop→PathP}

pub some_folded : (o : Option (List ℕ)) → is_some (option_map folded o) ≡ is_some o
some_folded None = refl
some_folded (Some text) = refl

pub volumes_folded : (periods : List ChargingPeriod) → list_all has_volumes_in_range (map folded_period periods) ≡ list_all has_volumes_in_range periods
volumes_folded [] = refl
volumes_folded (period ∷ periods) = ap (λ (b : Bool). has_volumes_in_range period && b) (volumes_folded periods)

abbrev pub folded_cdr : Cdr → Cdr
folded_cdr cdr = record cdr {
  operator = folded_party cdr.operator;
  id = folded cdr.id;
  cdr_token = folded_cdr_token cdr.cdr_token;
  authorization_reference = option_map folded cdr.authorization_reference;
  tariffs = map folded_tariff cdr.tariffs;
  charging_periods = map folded_period cdr.charging_periods;
  credit = option_map folded cdr.credit;
  id_in_range = ap₂ (λ (a : Bool) (n : ℕ). a || nat_le n 36) (some_folded cdr.credit) (length-map cdr.id _) ∙ cdr.id_in_range;
  volumes_in_range = ap₂ (λ (a b : Bool). a || b) (some_folded cdr.credit) (volumes_folded cdr.charging_periods) ∙ cdr.volumes_in_range;
  energy_in_range = ap (λ (a : Bool). a || int_le (pos 0) cdr.total_energy) (some_folded cdr.credit) ∙ cdr.energy_in_range;
}

pub equal_folded : (a b : Cdr) → AreEqualFolded a b → folded_cdr a ≡ folded_cdr b
equal_folded a b e = λ i. record {
  operator = e.operator i;
  id = e.id i;
  start_date_time = e.start_date_time i;
  end_date_time = e.end_date_time i;
  cdr_token = e.cdr_token i;
  auth_method = e.auth_method i;
  authorization_reference = e.authorization_reference i;
  currency = e.currency i;
  tariffs = e.tariffs i;
  charging_periods = e.charging_periods i;
  total_cost = e.total_cost i;
  total_energy = e.total_energy i;
  total_time = e.total_time i;
  credit = e.credit i;
  last_updated = e.last_updated i;
  id_in_range = is_prop→PathP (λ j. (is_some (e.credit j) || nat_le (length (e.id j)) 36) ≡ true) (λ j. Bool-set _ _) (folded_cdr a).id_in_range (folded_cdr b).id_in_range i;
  volumes_in_range = is_prop→PathP (λ j. (is_some (e.credit j) || list_all has_volumes_in_range (e.charging_periods j)) ≡ true) (λ j. Bool-set _ _) (folded_cdr a).volumes_in_range (folded_cdr b).volumes_in_range i;
  energy_in_range = is_prop→PathP (λ j. (is_some (e.credit j) || int_le (pos 0) (e.total_energy j)) ≡ true) (λ j. Bool-set _ _) (folded_cdr a).energy_in_range (folded_cdr b).energy_in_range i;
}
