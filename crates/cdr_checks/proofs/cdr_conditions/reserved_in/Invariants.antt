use Rattle.std.proofs.Common.{◌≡◌, drop}
use Rattle.tariff_elements.specs.FirstOf.{first_from}
use Rattle.cdr_checks.specs.CdrConditions.{reserved, reserved_in}
use Rattle.cdr_checks.proofs.cdr_conditions.reserved_in.Given as goal

abbrev pub invariant-loop-dimension : goal.invariant-loop-dimension
invariant-loop-dimension l = record {
  rest : reserved_in l.fn.period ≡ first_from reserved l.index (drop l.dimension-index l.dimensions);
  number : l.index ≡ l.dimension-index;
}
