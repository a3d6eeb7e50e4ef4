use Rattle.std.proofs.Common.{◌≡◌, map, vec_len, vec_capacity, length}
use Rattle.clear_cli.proofs.house_run.split.Given as goal

abbrev pub invariant-loop-pass : goal.invariant-loop-pass
invariant-loop-pass g l = record {
  passes : l.passes.items ≡ map (λ worker. worker.0) l.yielded;
  ends : l.ends.items ≡ map (λ worker. worker.1) l.yielded;
  passes_len : vec_len l.passes ≡ length l.yielded;
  ends_len : vec_len l.ends ≡ length l.yielded;
  passes_places : vec_capacity l.passes ≡ vec_capacity l.fn.places.passes;
  ends_places : vec_capacity l.ends ≡ vec_capacity l.fn.places.ends;
}
