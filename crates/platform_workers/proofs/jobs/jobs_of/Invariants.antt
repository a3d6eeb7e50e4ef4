use Rattle.std.proofs.Common.{◌≡◌, ◌++◌, map, vec_len, vec_capacity, length}
use Rattle.platform_workers.proofs.jobs.jobs_of.Given as goal

abbrev pub invariant-loop-pass : goal.invariant-loop-pass
invariant-loop-pass g l = record {
  passes : map (λ job. job.pass) l.jobs.items ≡ l.yielded;
  given : map (λ job. job.given) l.jobs.items ++ l.rest.rest.items ≡ l.fn.given.items;
  len : vec_len l.jobs ≡ length l.yielded;
  capacity : vec_capacity l.jobs ≡ vec_capacity l.fn.jobs;
}
