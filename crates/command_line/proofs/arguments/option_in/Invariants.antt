use Rattle.std.proofs.Common.{◌≡◌, drop, find}
use Rattle.command_line.specs.Arguments.{is_given}
use Rattle.command_line.proofs.arguments.option_in.Given as goal

abbrev pub invariant-loop-option : goal.invariant-loop-option
invariant-loop-option l = find (is_given l.body) l.options ≡ find (is_given l.body) (drop l.option-index l.options)
