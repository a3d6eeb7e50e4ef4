use Rattle.std.proofs.Common.{◌≡◌, ◌≤◌, ◌+◌, map, vec_capacity, vec_len, []}
use Rattle.std.specs.List.{range_with_len}
use Rattle.std.specs.Prelude.{All}
use Rattle.shared_house.proofs.house.making.make_passes.Given as goal

abbrev pub invariant-loop-number : goal.invariant-loop-number
invariant-loop-number g l = record {
  parts : l.events.parts + l.number ≡ l.count;
  nothing : l.events.amount ≡ 0;
  len : vec_len l.passes ≡ l.number;
  places : l.count ≤ vec_capacity l.passes;
  fresh : All (λ pass. pass.calls ≡ []) l.passes.items;
  numbers : map (λ pass. pass.number) l.passes.items ≡ range_with_len 0 l.number;
}
