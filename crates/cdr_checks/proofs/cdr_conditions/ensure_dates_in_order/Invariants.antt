use Rattle.std.proofs.Common.{◌≡◌, drop}
use Rattle.cdr_checks.specs.CdrConditions.{out_of_order, out_of_order_from}
use Rattle.cdr_checks.proofs.cdr_conditions.ensure_dates_in_order.Given as goal

abbrev pub invariant-loop-period : goal.invariant-loop-period
invariant-loop-period l = record {
  rest : out_of_order l.fn.cdr ≡ out_of_order_from l.index l.latest (drop l.period-index l.periods) l.fn.cdr.end_date_time;
  number : l.index ≡ l.period-index;
}
