use Rattle.std.proofs.Common.{◌-◌, ◌+◌, ◌/◌, ◌%◌, ap, arith}
use Rattle.input_reports.proofs.explain_cost.DigitLemmas.{digit_added, digits_done, power_above_zero}
use Rattle.input_reports.proofs.explain_cost.numbers.write_last_digits.Goals as goal

pub nonzero_div-number : goal.nonzero_div-number
nonzero_div-number c = power_above_zero (c.loop-left.left - 1) c.pow.result c.pow.ensures

pub loop-left-preserved : goal.loop-left-preserved
loop-left-preserved c =
    let left = c.loop-left.left in
    let number = c.args.number in
    record {
      text = digit_added left (left - 1) number _ c.loop-left.text.items c.push.new.self.items _ (omega arith)
          (ap (λ power. 48 + number / power % 10) c.pow.ensures) c.in_ok-push.ensures.items c.loop-left.invariant.text;
      few = omega arith;
    }

pub returns : goal.returns
returns c = digits_done c.loop-left.left c.args.number c.loop-left.text.items _ c.loop-left-test.false c.loop-left.invariant.text
