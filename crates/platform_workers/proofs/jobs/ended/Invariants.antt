use Rattle.std.proofs.Common.{◌≡◌, map, vec_len, vec_capacity, length}
use Rattle.platform_workers.proofs.jobs.ended.Given as goal

abbrev pub invariant-loop-job : goal.invariant-loop-job
invariant-loop-job g l = record {
  ended : l.ended.items ≡ map (λ job. (job.pass, job.end)) l.yielded;
  len : vec_len l.ended ≡ length l.yielded;
  capacity : vec_capacity l.ended ≡ vec_capacity l.fn.ended;
}
