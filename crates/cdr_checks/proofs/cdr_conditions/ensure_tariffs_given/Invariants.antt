use Rattle.std.proofs.Common.{◌≡◌, drop}
use Rattle.tariff_elements.specs.FirstOf.{first_from}
use Rattle.cdr_checks.specs.CdrConditions.{id_not_given, tariff_not_given}
use Rattle.cdr_checks.proofs.cdr_conditions.ensure_tariffs_given.Given as goal

abbrev pub invariant-loop-period : goal.invariant-loop-period
invariant-loop-period l = record {
  rest : tariff_not_given l.fn.cdr ≡ first_from (id_not_given l.fn.cdr) l.index (drop l.period-index l.periods);
  number : l.index ≡ l.period-index;
}
