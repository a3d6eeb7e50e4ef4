use Rattle.std.proofs.Common.{◌≡◌, drop}
use Rattle.tariff_elements.specs.FirstOf.{first_from}
use Rattle.cdr_checks.specs.CdrConditions.{reservation, reserved_in}
use Rattle.cdr_checks.proofs.cdr_conditions.ensure_no_reservation.Given as goal

abbrev pub invariant-loop-period : goal.invariant-loop-period
invariant-loop-period l = record {
  rest : reservation l.fn.cdr ≡ first_from reserved_in l.index (drop l.period-index l.periods);
  number : l.index ≡ l.period-index;
}
