use Rattle.std.proofs.Common.{rules}
use Rattle.clear_cli.proofs.StepLines.{number_from_one, number_parsed}
use Rattle.clear_cli.proofs.step_line.call_named.Goals as goal

pub returns-in_err-number : goal.returns-in_err-number
returns-in_err-number c =
    let parsed = number_parsed c.args.text.now c.parse.result c.parse.ensures.value.0 (search rules) in
    search rules

pub overflow_sub-result : goal.overflow_sub-result
overflow_sub-result c =
    let some = number_from_one c.args.text.now (search rules) in
    let parsed = number_parsed c.args.text.now c.parse.result c.parse.ensures.value.0 (search rules) in
    search rules
