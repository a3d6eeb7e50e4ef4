use Rattle.std.proofs.Common.{◌≡◌}
use Rattle.operator_book.proofs.versions.Versions.share.Given as goal

abbrev pub invariant-loop-at : goal.invariant-loop-at
invariant-loop-at l = l.tariffs ≡ l.initial.tariffs
