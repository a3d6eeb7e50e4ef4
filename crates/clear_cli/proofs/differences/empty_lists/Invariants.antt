use Rattle.std.proofs.Common.{◌≡◌, map}
use Rattle.clear_cli.specs.Inner.RecordLists.{no_lists}
use Rattle.clear_cli.proofs.differences.empty_lists.Given as goal

abbrev pub invariant-loop-number : goal.invariant-loop-number
invariant-loop-number l = map (λ list. list.items) l.lists.items ≡ no_lists l._number
