use Rattle.std.proofs.Common.{◌-◌, ◌∙◌, sym, arith}
use Rattle.input_reports.proofs.explain_cost.DigitLemmas.{no_zero_left, zero_cut, zeros_done}
use Rattle.input_reports.proofs.explain_cost.numbers.without_last_zeros.Goals as goal

pub loop-left-preserved : goal.loop-left-preserved
loop-left-preserved c =
    let left = c.loop-left.left in
    record {
      value = sym (zero_cut left.places (left.places - 1) left.number (omega arith) c.if-left-eq0.true) ∙ c.loop-left.invariant.value;
      places = omega arith;
    }

pub returns-else-left-eq0-clause-value : goal.returns-else-left-eq0-clause-value
returns-else-left-eq0-clause-value c = no_zero_left c.loop-left.left.places c.loop-left.left.number c.if-left-eq0.false ∙ c.loop-left.invariant.value

pub returns-after-loop-left-clause-value : goal.returns-after-loop-left-clause-value
returns-after-loop-left-clause-value c = zeros_done c.loop-left.left.places c.loop-left.left.number c.loop-left-test.false ∙ c.loop-left.invariant.value
