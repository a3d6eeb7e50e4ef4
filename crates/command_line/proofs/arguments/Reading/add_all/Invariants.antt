use Rattle.std.proofs.Common.{◌≡◌, drop, map, string_bytes}
use Rattle.command_line.specs.Arguments.{arguments_after, plain_reading}
use Rattle.command_line.proofs.arguments.Reading.add_all.Given as goal

abbrev pub invariant-loop-word : goal.invariant-loop-word
invariant-loop-word l =
    arguments_after l.options (plain_reading l.fn.self) (map string_bytes l.words) ≡ arguments_after l.options (plain_reading l.self) (map string_bytes (drop l.word-index l.words))
