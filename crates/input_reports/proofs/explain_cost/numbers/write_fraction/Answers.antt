use Rattle.std.proofs.Common.{◌∙◌, ◌++◌, ap, List, ℕ}
use Rattle.std.proofs.lemmas.Result.{on_ok_weaker}
use Rattle.input_reports.specs.explain_cost.Numbers.{last_digits}
use Rattle.input_reports.proofs.explain_cost.DigitLemmas.{no_fraction, point_before}
use Rattle.input_reports.proofs.explain_cost.numbers.write_fraction.Goals as goal

pub returns-then-decimals-eq0 : goal.returns-then-decimals-eq0
returns-then-decimals-eq0 c =
    let decimals = c.without_last_zeros-decimals in
    no_fraction decimals.result.places decimals.result.number c.args.text.now.items _ c.if-decimals-eq0.true decimals.ensures.value

pub returns : goal.returns
returns c =
    let decimals = c.without_last_zeros-decimals in
    let digits = last_digits decimals.result.places decimals.result.number in
    on_ok_weaker c.write_last_digits.result
    (λ written. point_before decimals.result.places decimals.result.number c.args.text.now.items c.write_last_digits.new.text.items _ c.if-decimals-eq0.false decimals.ensures.value
    (written ∙ ap (λ (l : List ℕ). l ++ digits) c.in_ok-push.ensures.items))
    c.write_last_digits.ensures
