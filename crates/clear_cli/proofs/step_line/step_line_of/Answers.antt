use Rattle.std.proofs.Common.{rules, sym, None, Some}
use Rattle.clear_cli.proofs.StepLines.{ascii_is_utf8, said}
use Rattle.clear_cli.proofs.step_line.step_line_of.Goals as goal

pub returns-in_err-text : goal.returns-in_err-text
returns-in_err-text c =
    let text = ascii_is_utf8 c.args.line.now (search rules) in
    search rules

pub returns-in_err-named : goal.returns-in_err-named
returns-in_err-named c =
    let none = said c.args.config.now c.args.line.now c.in_ok-number.number.now c.in_ok-number.name.now c.in_ok-call.call None (search rules) (search rules) (search rules) (search rules) (search rules) in
    search rules

pub returns : goal.returns
returns c = sym (said c.args.config.now c.args.line.now c.in_ok-number.number.now c.in_ok-number.name.now c.in_ok-call.call (Some c.in_ok-named.named) (search rules) (search rules) (search rules) (search rules) (search rules))
