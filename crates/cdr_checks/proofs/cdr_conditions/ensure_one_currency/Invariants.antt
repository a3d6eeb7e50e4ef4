use Rattle.std.proofs.Common.{◌≡◌, drop}
use Rattle.tariff_elements.specs.FirstOf.{first_from}
use Rattle.cdr_checks.specs.CdrConditions.{currency_but, other_currency}
use Rattle.cdr_checks.proofs.cdr_conditions.ensure_one_currency.Given as goal

abbrev pub invariant-loop-tariff : goal.invariant-loop-tariff
invariant-loop-tariff l = record {
  rest : other_currency l.fn.cdr ≡ first_from (currency_but l.fn.cdr.currency) l.index (drop l.tariff-index l.tariffs);
  number : l.index ≡ l.tariff-index;
}
