use Rattle.std.proofs.Common.{◌≡◌, ◌+◌, length}
use Rattle.ocpi_json.specs.Inner.Begun.{HasItems, listed}
use Rattle.ocpi_json.specs.Inner.Places.{tokens_from, IsLinked}
use Rattle.ocpi_json.proofs.node.count.Given as goal

abbrev pub invariant-loop-len : goal.invariant-loop-len
invariant-loop-len l = record {
  linked : IsLinked l.items;
  has : HasItems (tokens_from l.items);
  sum : l.len + length (listed (tokens_from l.items)) ≡ length (listed (tokens_from l.initial.items));
}

abbrev pub decreases-loop-len : goal.decreases-loop-len
decreases-loop-len l = length (tokens_from l.items)
