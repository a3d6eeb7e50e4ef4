use Rattle.std.proofs.Common.{◌≡◌, map, take}
use Rattle.clear_cli.proofs.words.copied.Given as goal

abbrev pub invariant-loop-text : goal.invariant-loop-text
invariant-loop-text l = map (λ text. text.now) l.copy.items ≡ map (λ text. text.now) (take l.text-index l.texts)
