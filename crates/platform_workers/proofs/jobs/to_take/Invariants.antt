use Rattle.std.proofs.Common.{◌≡◌, Some, map, vec_len, vec_capacity, length}
use Rattle.platform_workers.proofs.jobs.to_take.Given as goal

abbrev pub invariant-loop-pair : goal.invariant-loop-pair
invariant-loop-pair g l = record {
  taken : l.taken.items ≡ map Some l.yielded;
  len : vec_len l.taken ≡ length l.yielded;
  capacity : vec_capacity l.taken ≡ vec_capacity l.fn.taken;
}
