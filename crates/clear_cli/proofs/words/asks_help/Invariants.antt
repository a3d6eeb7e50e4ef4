use Rattle.std.proofs.Common.{◌≡◌, drop, map, string_bytes}
use Rattle.clear_cli.specs.Words.{asks_help}
use Rattle.clear_cli.proofs.words.asks_help.Given as goal

abbrev pub invariant-loop-word : goal.invariant-loop-word
invariant-loop-word l = asks_help (map string_bytes l.words) ≡ asks_help (map string_bytes (drop l.word-index l.words))
