use Rattle.std.proofs.Common.{◌≡◌, ◌≤◌, ◌*◌, ◌^◌, map, take}
use Rattle.clear_cli.specs.Inner.RecordLists.{count_lists}
use Rattle.clear_cli.proofs.differences.count_in.Given as goal

abbrev pub invariant-loop-number : goal.invariant-loop-number
invariant-loop-number g l = record {
  counted : l.count ≡ count_lists (take l.number l.operators) (map (λ list. list.items) (take l.number l.lists));
  few : l.count ≤ l.number * 2 ^ 63;
}
