use Rattle.std.proofs.Common.{◌≡◌, [], take, true}
use Rattle.std.specs.Prelude.{◌↔◌}
use Rattle.clear_cli.specs.Fault.{AreTold}
use Rattle.clear_cli.specs.Run.{worker_lines}
use Rattle.clear_cli.proofs.run.tell_failed.Given as goal

abbrev pub invariant-loop-place : goal.invariant-loop-place
invariant-loop-place g l = record {
  told : AreTold g.F.Sink.writing l.fn.faults (worker_lines (take l.place l.named) (take l.place l.ends)) l.faults;
  done : (l.are_done ≡ true) ↔ (worker_lines (take l.place l.named) (take l.place l.ends) ≡ []);
}
