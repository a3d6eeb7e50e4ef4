use Rattle.tariff_elements.specs.Support.{unsupported}
use Rattle.tariff_elements.proofs.FirstLemmas.{finds_first}
use Rattle.cdr_checks.specs.CdrConditions.{currency_but, id_not_given, reserved_in}
use Rattle.cdr_checks.proofs.laws.firsts_are_found.Goals as goal

pub returns : goal.returns
returns c cdr = record {
  currency = finds_first (currency_but cdr.currency) cdr.tariffs;
  tariff = finds_first (id_not_given cdr) cdr.charging_periods;
  bound = finds_first unsupported cdr.tariffs;
  volume = finds_first reserved_in cdr.charging_periods;
}
