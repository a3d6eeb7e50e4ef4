use Rattle.std.proofs.Common.{rules, ℕ, ◌+◌, List, map, take, sym, subst, string_bytes}
use Rattle.clear_cli.specs.Fault.{AreTold}
use Rattle.clear_cli.specs.Opening.{given_file, unopened_line, unopened_lines}
use Rattle.clear_cli.proofs.ToldLines.{told_more}
use Rattle.clear_cli.proofs.OpeningLemmas.{one_file_more}
use Rattle.clear_cli.proofs.opening.tell_unopened.Goals as goal

pub loop-path-preserved : goal.loop-path-preserved
loop-path-preserved g c =
    let longer = one_file_more given_file c.args.files.now c.loop-path.path-index _ c.loop-path-item.result (c.loop-path.number + 1)
    c.loop-path-item.is (search rules) (search rules) in
    let more = told_more g.F.Sink.writing (unopened_lines 1 (map given_file (take c.loop-path.path-index c.args.files.now)))
    (unopened_line (c.loop-path.number + 1) (string_bytes c.loop-path-item.result.0) c.loop-path-item.result.1)
    c.args.faults.now c.loop-path.faults c.tell_if_unopened.new.faults c.loop-path.invariant.told (search rules) in
    record { number = search rules; told = subst (λ (l : List (List ℕ)). AreTold g.F.Sink.writing c.args.faults.now l c.tell_if_unopened.new.faults) (sym longer) more }
