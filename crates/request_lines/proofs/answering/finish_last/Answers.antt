use Rattle.std.proofs.Common.{◌<◌, [], length, arith}
use Rattle.std.proofs.lemmas.Bool.Decides.{nat_tests}
use Rattle.std.proofs.lemmas.Result.{IfErr-weaker}
use Rattle.request_lines.proofs.RunLemmas.{stops_at_last}
use Rattle.request_lines.proofs.answering.finish_last.Goals as goal

pub returns-clause-err : goal.returns-clause-err
returns-clause-err g c =
    let some : 0 < length c.args.part.now = grind (arith, nat_tests, c.if-is_empty.ensures) in
    IfErr-weaker c.finish_line.result _ _ (λ fault h. let stopped = h [] in record {
      text = stopped.text;
      taken = stopped.taken;
      stops = stops_at_last _ _ _ _ _ _ some stopped.stops;
      has_failed = stopped.has_failed;
      unfailed = stopped.unfailed;
      counted = stopped.counted;
    }) c.finish_line.ensures.err
