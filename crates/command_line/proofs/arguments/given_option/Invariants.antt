use Rattle.std.proofs.Common.{◌≡◌, drop, find, map}
use Rattle.command_line.specs.Arguments.{is_given_as, plain_given}
use Rattle.command_line.proofs.arguments.given_option.Given as goal

abbrev pub invariant-loop-one : goal.invariant-loop-one
invariant-loop-one l = find (is_given_as l.option) (map plain_given l.given) ≡ find (is_given_as l.option) (map plain_given (drop l.one-index l.given))
