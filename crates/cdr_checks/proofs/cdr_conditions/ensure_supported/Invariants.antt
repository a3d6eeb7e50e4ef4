use Rattle.std.proofs.Common.{◌≡◌, drop}
use Rattle.tariff_elements.specs.FirstOf.{first_from}
use Rattle.cdr_checks.specs.CdrConditions.{unsupported_tariff}
use Rattle.tariff_elements.specs.Support.{unsupported}
use Rattle.cdr_checks.proofs.cdr_conditions.ensure_supported.Given as goal

abbrev pub invariant-loop-tariff : goal.invariant-loop-tariff
invariant-loop-tariff l = record {
  rest : unsupported_tariff l.fn.cdr ≡ first_from unsupported l.index (drop l.tariff-index l.tariffs);
  number : l.index ≡ l.tariff-index;
}
