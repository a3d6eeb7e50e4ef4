use Rattle.std.proofs.Common.{◌++◌, sym, ap, ◌∙◌}
use Rattle.std.specs.Fmt.{sign_text}
use Rattle.exact_money.specs.Numeral.{Numeral}
use Rattle.exact_money.proofs.Spelled.{some_of, none_of}
use Rattle.exact_money.proofs.millionths.Millionths.read.Goals as goal

pub returns-clause-value : goal.returns-clause-value
returns-clause-value c =
    let n : Numeral = record { negative = c.sign_of-negative.result.0; whole = c.in_ok-whole.whole.now; fraction = c.in_ok-whole.fraction.now } in
    let parts = c.in_ok-whole.ensures.found in
    (n, (parts.0, parts.1), c.sign_of-negative.ensures.found ∙ ap (λ l. sign_text n.negative ++ l) parts.2, (c.rounded.result, c.rounded.ensures.nearest, c.of_size.ensures))

pub returns-clause-computed : goal.returns-clause-computed
returns-clause-computed c =
    let n : Numeral = record { negative = c.sign_of-negative.result.0; whole = c.in_ok-whole.whole.now; fraction = c.in_ok-whole.fraction.now } in
    let parts = c.in_ok-whole.ensures.found in
    sym (some_of c.args.text.now c.of_size.result
    (n, (parts.0, parts.1), c.sign_of-negative.ensures.found ∙ ap (λ l. sign_text n.negative ++ l) parts.2, (c.rounded.result, c.rounded.ensures.nearest, c.of_size.ensures)))

pub returns-in_err-whole-clause-computed : goal.returns-in_err-whole-clause-computed
returns-in_err-whole-clause-computed c =
    let e = none_of c.args.text.now (λ n plain e. let parts = c.sign_of-negative.ensures.only n plain e in c.in_err-whole.ensures.none n.whole n.fraction plain.0 plain.1 parts.1) in c.from_residual.ensures ∙ e
