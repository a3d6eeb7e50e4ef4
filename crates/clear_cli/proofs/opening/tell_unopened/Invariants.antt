use Rattle.std.proofs.Common.{◌≡◌, map, take}
use Rattle.clear_cli.specs.Fault.{AreTold}
use Rattle.clear_cli.specs.Opening.{given_file, unopened_lines}
use Rattle.clear_cli.proofs.opening.tell_unopened.Given as goal

abbrev pub invariant-loop-path : goal.invariant-loop-path
invariant-loop-path g l = record {
  number : l.number ≡ l.path-index;
  told : AreTold g.F.Sink.writing l.fn.faults (unopened_lines 1 (map given_file (take l.path-index l.files))) l.faults;
}
